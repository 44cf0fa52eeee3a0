use Rattle.std.proofs.Common.{◌≡◌, pos, sym, ap, ◌∙◌, arith, to_z-of_z, Some}
use Rattle.std.specs.Prelude.{option_map}
use Rattle.std.specs.Int.{w128}
use mir.Val.{to_z, of_z}
use Rattle.vortex_cells.specs.CellValues.{negative}
use Rattle.vortex_cells.proofs.ShortNumbers.{turned}
use Rattle.vortex_cells.proofs.digits.short_negative.Goals as goal

pub returns : goal.returns
returns c =
    let n = c.in_ok-number.number in
    let back : to_z w128 (of_z w128 c.from.result) ≡ c.from.result = grind (arith, to_z-of_z) in
    let is : to_z w128 (of_z w128 c.from.result) ≡ pos n = back ∙ c.from.ensures in
    ap (option_map negative) c.in_ok-number.ensures
    ∙ ap Some (sym (turned n _ (rw c.from.ensures at c.from.type_inv) is))
