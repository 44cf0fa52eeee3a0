use Rattle.std.proofs.Common.{ℕ, map}
use Rattle.vortex_operators.specs.OperatorValues.{holds}
use Rattle.vortex_kernels.specs.PairOrders.{int_orders, int_orders_with}
use Rattle.vortex_kernels.proofs.Comparing.{ints_order, ints_order_with}
use Rattle.yurkije_lent.specs.Operands.{operand_column}
use Rattle.yurkije_lent.proofs.Bounded.{beside_rows}
use Rattle.yurkije_lent.proofs.between.ints_beside.Goals as goal

pub returns-in-Some : goal.returns-in-Some
returns-in-Some g c =
    let x = operand_column c.args.array.now in
    let u = operand_column c.args.upper.now in
    let xs = map g.T.NativePType.number c.in_ok-left.left.now in
    let ys = map g.T.NativePType.number c.in-Some.right.now in
    beside_rows (λ (i : ℕ). holds g.P.Comparison.operator (g.L.Pairs.order c.args.lower i))
    g.Q.Comparison.operator (int_orders xs ys) x.rows u.rows c.hold_both_in_spans.result c.ok.result
    c.ok.ensures.value
    (ints_order x u c.requires.upper xs ys c.in_ok-left.ensures c.in-Some.ensures)
    (rw c.len-len.ensures at c.hold_both_in_spans.ensures)

pub returns : goal.returns
returns g c =
    let x = operand_column c.args.array.now in
    let u = operand_column c.args.upper.now in
    let xs = map g.T.NativePType.number c.in_ok-left.left.now in
    let z = g.T.NativePType.number c.in_ok-right.right in
    beside_rows (λ (i : ℕ). holds g.P.Comparison.operator (g.L.Pairs.order c.args.lower i))
    g.Q.Comparison.operator (int_orders_with xs z) x.rows u.rows c.hold_both_in_spans-2.result
    c.ok-2.result c.ok-2.ensures.value
    (ints_order_with x u c.requires.upper xs z c.in_ok-left.ensures c.in_ok-right.ensures)
    (rw c.len-len.ensures at c.hold_both_in_spans-2.ensures)
