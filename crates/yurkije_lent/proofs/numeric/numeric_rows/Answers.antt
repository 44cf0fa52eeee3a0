use Rattle.std.proofs.Common.{false, length, map, arith, refl}
use Rattle.vortex_columns.specs.ValidityView.{validity_of}
use Rattle.vortex_kernels.specs.Faults.{AreHeldResults}
use Rattle.vortex_kernels.specs.Numeric.{row_results}
use Rattle.yurkije_lent.specs.Operands.{operand_column}
use Rattle.yurkije_lent.proofs.Calculated.{calculated_rows}
use Rattle.yurkije_lent.proofs.FloatArithmetic.{inner_holds}
use Rattle.yurkije_lent.proofs.numeric.numeric_rows.Goals as goal

pub returns : goal.returns
returns g c =
    let p = g.T.NativePType.ptype in
    let exact = g.O.CheckedPrimitiveOp.exact in
    let left = g.L.Numbers.number_at c.args.left.now in
    let right = g.R.Numbers.number_at c.args.right.now in
    let l = operand_column c.args.lhs.now in
    let r = operand_column c.args.rhs.now in
    let number = g.T.NativePType.number in
    let n = length l.rows in
    let results = row_results exact left right in
    let values = c.in_ok-values.values in
    let held =
    inner_holds c.faultless_rows.result (λ vs. AreHeldResults p results n (map number vs.items))
    c.ok.result c.in_ok-made.made values c.ok.ensures.value c.in_ok-made.was c.in_ok-values.was
    (rw c.len.ensures at c.faultless_rows.ensures) in
    calculated_rows p exact left right l r c.requires.types c.requires.lengths c.requires.left.each
    (λ i lt. c.requires.right.each i (omega (arith, c.requires.lengths, lt)))
    number values.items false (validity_of c.in_ok-validity.validity) c.try_primitive.result
    c.ok-2.result held.0 held.1 refl c.in_ok-validity.ensures c.try_primitive.ensures
    c.ok-2.ensures.value
