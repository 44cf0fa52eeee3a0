use Rattle.std.proofs.Common.{map}
use Rattle.std.specs.Prelude.{Ok}
use Rattle.vortex_kernels.specs.PairOrders.{int_orders, int_orders_with}
use Rattle.vortex_kernels.proofs.BoundedRows.{bounded_beside}
use Rattle.vortex_kernels.proofs.Comparing.{ints_order, ints_order_with}
use Rattle.yurkije_lent.specs.Operands.{operand_column}
use Rattle.yurkije_lent.proofs.between.ints_between.Goals as goal

pub returns-in-Some : goal.returns-in-Some
returns-in-Some g c =
    let x = operand_column c.args.array.now in
    let l = operand_column c.args.lower.now in
    let u = operand_column c.args.upper.now in
    let xs = map g.T.NativePType.number c.in_ok-left.left.now in
    let ys = map g.T.NativePType.number c.in-Some.right.now in
    bounded_beside g.P.Comparison.operator g.Q.Comparison.operator (int_orders xs ys) x.rows l.rows
    u.rows (Ok c.ints_beside.result)
    (ints_order x l c.requires.lower xs ys c.in_ok-left.ensures c.in-Some.ensures)
    c.ints_beside.ensures

pub returns : goal.returns
returns g c =
    let x = operand_column c.args.array.now in
    let l = operand_column c.args.lower.now in
    let u = operand_column c.args.upper.now in
    let xs = map g.T.NativePType.number c.in_ok-left.left.now in
    let z = g.T.NativePType.number c.in_ok-right.right in
    bounded_beside g.P.Comparison.operator g.Q.Comparison.operator (int_orders_with xs z) x.rows
    l.rows u.rows (Ok c.ints_beside-2.result)
    (ints_order_with x l c.requires.lower xs z c.in_ok-left.ensures c.in_ok-right.ensures)
    c.ints_beside-2.ensures
