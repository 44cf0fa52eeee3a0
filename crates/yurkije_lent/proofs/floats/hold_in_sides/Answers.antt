use Rattle.vortex_kernels.specs.Comparison.{AreComparisons}
use Rattle.yurkije_lent.specs.Operands.{operand_column}
use Rattle.yurkije_lent.proofs.FloatSides.{ok_holds, sides_compare}
use Rattle.yurkije_lent.proofs.floats.hold_in_sides.Goals as goal

pub returns : goal.returns
returns g c =
    let l = operand_column c.args.lhs.now in
    let r = operand_column c.args.rhs.now in
    ok_holds c.hold_in_spans.result (AreComparisons g.P.Comparison.operator l.rows r.rows)
    c.ok.result c.ok.ensures.value
    (sides_compare g.P.Comparison.operator l r (g.L.Numbers.has_row c.args.left)
    (g.R.Numbers.has_row c.args.right) (g.L.Numbers.number_at c.args.left)
    (g.R.Numbers.number_at c.args.right) c.hold_in_spans.result c.requires.lengths c.requires.left
    c.requires.right (rw c.len.ensures at c.hold_in_spans.ensures))
