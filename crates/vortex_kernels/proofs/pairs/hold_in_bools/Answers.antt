use Rattle.std.proofs.Common.{false, slice_index_or}
use Rattle.vortex_kernels.specs.PairOrders.{bit_orders, bit_orders_with}
use Rattle.vortex_kernels.proofs.Comparing.{answers_compare, answers_held, bits_order}
use Rattle.vortex_kernels.proofs.Comparing.{bits_order_with}
use Rattle.vortex_kernels.proofs.pairs.hold_in_bools.Goals as goal

pub returns-in-Some-Some-default : goal.returns-in-Some-Some-default
returns-in-Some-Some-default g c =
    let l = c.args.lhs.now in
    let r = c.args.rhs.now in
    let xs = c.in-Some-Some-default.left.now in
    let ys = c.in-Some-Some-default.right.now in
    let bits = c.in-Some-Some-default.ensures.1 in
    answers_compare g.P.Comparison.operator (bit_orders xs ys) l.rows r.rows c.zip_bits.result
    (bits_order l r c.requires xs ys bits c.in-Some-Some-default.ensures'.1)
    (answers_held g.P.Comparison.operator (bit_orders xs ys) _ _ _ c.zip_bits.result bits.count
    (λ i. g.met.P.Comparison.of_bits (slice_index_or xs i false) (slice_index_or ys i false))
    c.zip_bits.ensures)

pub returns-in-Some-None-Some : goal.returns-in-Some-None-Some
returns-in-Some-None-Some g c =
    let l = c.args.lhs.now in
    let r = c.args.rhs.now in
    let xs = c.in-Some-None-Some.left.now in
    let b = c.in-Some-None-Some.right in
    let bits = c.in-Some-None-Some.ensures.1 in
    answers_compare g.P.Comparison.operator (bit_orders_with xs b) l.rows r.rows
    c.zip_bits_with.result
    (bits_order_with l r c.requires xs b bits c.in-Some-None-Some.ensures''.value)
    (answers_held g.P.Comparison.operator (bit_orders_with xs b) _ _ _ c.zip_bits_with.result
    bits.count (λ i. g.met.P.Comparison.of_bits (slice_index_or xs i false) b)
    c.zip_bits_with.ensures)
