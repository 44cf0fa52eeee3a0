use Rattle.std.proofs.Common.{◌≡◌, arith, to_z-of_z, Some, sym, ap, ◌∙◌, List, ℕ}
use Rattle.std.specs.Prelude.{option_map}
use Rattle.std.specs.Int.{w128}
use mir.Val.{to_z, of_z}
use Rattle.vortex_cells.specs.CellValues.{digits_of, negative}
use Rattle.vortex_cells.proofs.Numbers.{are_digits, negative_read}
use Rattle.vortex_cells.proofs.digits.read_negative.Goals as goal

pub returns-in-Some : goal.returns-in-Some
returns-in-Some c =
    let back : to_z w128 (of_z w128 c.in-Some.number) ≡ c.in-Some.number = grind (arith, to_z-of_z) in
    ap (λ (bs : List ℕ). option_map negative (digits_of bs)) (sym c.as_bytes.ensures.value)
    ∙ c.in-Some.ensures ∙ ap Some (sym back)

pub returns : goal.returns
returns c =
    rw c.ok.ensures.value
    (negative_read c.args.word.now c.args.digits.now c.parse.result c.requires
    (are_digits c.args.digits.now (sym c.are_digits.ensures ∙ c.if-not-are_digits.false))
    c.parse.ensures.value.0)
