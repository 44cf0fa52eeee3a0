use Rattle.vortex_views.specs.BorrowedValue.{constant_value}
use Rattle.vortex_views.specs.BorrowedValues.{borrowed_values}
use Rattle.vortex_kernels.specs.PairOrders.{byte_orders, byte_orders_with}
use Rattle.vortex_kernels.proofs.Comparing.{answers_compare, bytes_order, bytes_order_with}
use Rattle.vortex_kernels.proofs.pairs.hold_in_bytes.Goals as goal

pub returns-in-Some-Some-default : goal.returns-in-Some-Some-default
returns-in-Some-Some-default g c =
    let l = c.args.lhs.now in
    let r = c.args.rhs.now in
    let xs = borrowed_values c.in-Some-Some-default.left in
    let ys = borrowed_values c.in-Some-Some-default.right in
    answers_compare g.P.Comparison.operator (byte_orders xs ys) l.rows r.rows c.hold_in_pairs.result
    (bytes_order l r c.requires.lengths c.requires.kind xs ys c.in-Some-Some-default.ensures
    c.in-Some-Some-default.ensures')
    (rw c.len-len.ensures at c.hold_in_pairs.ensures)

pub returns-in-Some-None-Some : goal.returns-in-Some-None-Some
returns-in-Some-None-Some g c =
    let l = c.args.lhs.now in
    let r = c.args.rhs.now in
    let xs = borrowed_values c.in-Some-None-Some.left in
    let bs = constant_value c.in-Some-None-Some.right in
    answers_compare g.P.Comparison.operator (byte_orders_with xs bs) l.rows r.rows
    c.hold_in_pairs-in-Some-None-Some.result
    (bytes_order_with l r c.requires.lengths c.requires.kind xs bs c.in-Some-None-Some.ensures
    c.in-Some-None-Some.ensures'')
    (rw c.len-len.ensures at c.hold_in_pairs-in-Some-None-Some.ensures)
