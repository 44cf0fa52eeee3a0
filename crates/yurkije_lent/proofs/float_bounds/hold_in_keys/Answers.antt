use Rattle.std.specs.Ordering.{int_cmp}
use Rattle.yurkije_lent.specs.Operands.{operand_column}
use Rattle.yurkije_lent.proofs.Bounded.{bounded_rows}
use Rattle.yurkije_lent.proofs.FloatSides.{sides_order}
use Rattle.yurkije_lent.proofs.float_bounds.hold_in_keys.Goals as goal

pub returns : goal.returns
returns g c =
    let x = operand_column c.args.array.now in
    let l = operand_column c.args.lower.now in
    let u = operand_column c.args.upper.now in
    let here = g.X.Numbers.number_at c.args.left in
    let low = g.L.Numbers.number_at c.args.low in
    let high = g.U.Numbers.number_at c.args.high in
    bounded_rows g.P.Comparison.operator g.Q.Comparison.operator
    (λ i. int_cmp (here i) (low i)) (λ i. int_cmp (here i) (high i)) x.rows l.rows u.rows
    c.hold_both_in_spans.result c.ok.result c.ok.ensures.value
    (sides_order x l (g.X.Numbers.has_row c.args.left) (g.L.Numbers.has_row c.args.low) here low
    c.requires.above c.requires.left c.requires.low)
    (sides_order x u (g.X.Numbers.has_row c.args.left) (g.U.Numbers.has_row c.args.high) here high
    c.requires.below c.requires.left c.requires.high)
    (rw c.len-len.ensures at c.hold_both_in_spans.ensures)
