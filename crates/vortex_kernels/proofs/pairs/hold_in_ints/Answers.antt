use Rattle.std.proofs.Common.{map}
use Rattle.vortex_kernels.specs.PairOrders.{int_orders, int_orders_with}
use Rattle.vortex_kernels.proofs.Comparing.{answers_compare, ints_order, ints_order_with}
use Rattle.vortex_kernels.proofs.pairs.hold_in_ints.Goals as goal

pub returns-in-Some-Some-default : goal.returns-in-Some-Some-default
returns-in-Some-Some-default g c =
    let l = c.args.lhs.now in
    let r = c.args.rhs.now in
    let xs = map g.T.NativePType.number c.in-Some-Some-default.left.now in
    let ys = map g.T.NativePType.number c.in-Some-Some-default.right.now in
    answers_compare g.P.Comparison.operator (int_orders xs ys) l.rows r.rows c.hold_in_spans.result
    (ints_order l r c.requires xs ys c.in-Some-Some-default.ensures.1
    c.in-Some-Some-default.ensures'.1)
    (rw c.len-len.ensures at c.hold_in_spans.ensures)

pub returns-in-Some-None-Some : goal.returns-in-Some-None-Some
returns-in-Some-None-Some g c =
    let l = c.args.lhs.now in
    let r = c.args.rhs.now in
    let xs = map g.T.NativePType.number c.in-Some-None-Some.left.now in
    let z = g.T.NativePType.number c.in-Some-None-Some.right in
    answers_compare g.P.Comparison.operator (int_orders_with xs z) l.rows r.rows
    c.hold_in_spans-in-Some-None-Some.result
    (ints_order_with l r c.requires xs z c.in-Some-None-Some.ensures.1
    c.in-Some-None-Some.ensures''.value)
    (rw c.len-len.ensures at c.hold_in_spans-in-Some-None-Some.ensures)
