use Rattle.std.proofs.Common.{◌≡◌, sym, ap, ◌∙◌, arith, to_z-of_z, pos, Some}
use Rattle.std.specs.Prelude.{option_map}
use Rattle.std.specs.Int.{w128}
use mir.Val.{to_z, of_z}
use Rattle.vortex_cells.proofs.digits.short_plain.Goals as goal

pub returns : goal.returns
returns c =
    let back : to_z w128 (of_z w128 c.from.result) ≡ c.from.result = grind (arith, to_z-of_z) in
    ap (option_map pos) c.in_ok-number.ensures ∙ ap Some (sym (back ∙ c.from.ensures))
