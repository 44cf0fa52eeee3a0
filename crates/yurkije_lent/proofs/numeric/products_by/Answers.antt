use Rattle.std.proofs.Common.{◌≡◌, ◌*ℤ◌, ◌∙◌, ℕ, ℤ, pos, Option, Some, length, map, refl, sym, arith}
use Rattle.std.specs.Prelude.{slice_index_or}
use Rattle.std.proofs.lemmas.List.{length-map}
use Rattle.vortex_errors.specs.declared.error.NumericOperator.TheVariants.{Mul}
use Rattle.vortex_columns.specs.ValidityView.{validity_of}
use Rattle.vortex_kernels.specs.Numeric.{row_results, AreResults, TellsFaults}
use Rattle.yurkije_lent.specs.Operands.{operand_column}
use Rattle.yurkije_lent.proofs.Calculated.{calculated_rows, of_operator}
use Rattle.yurkije_lent.proofs.Optional.{answered}
use Rattle.yurkije_lent.proofs.numeric.products_by.Goals as goal

pub returns : goal.returns
returns g c =
    let p = g.T.NativePType.ptype in
    let number = g.T.NativePType.number in
    let exact : ℤ → ℤ → Option ℤ = λ a b. Some (a *ℤ b) in
    let xs = c.args.values.now in
    let left : ℕ → ℤ = λ i. slice_index_or (map number xs) i (pos 0) in
    let right : ℕ → ℤ = λ i. number c.args.factor in
    let l = operand_column c.args.lhs.now in
    let r = operand_column c.args.rhs.now in
    let n = length l.rows in
    let results = row_results exact left right in
    let values = c.in_ok-values.values in
    let told = c.in_ok-values.may_fault in
    let count : length xs ≡ length l.rows = sym (length-map xs number) ∙ c.requires.left.count in
    let are =
    answered c.bounded_products.result (λ a. AreResults p results n (map number a.0.items))
    c.ok.result (values, told) c.ok.ensures.value c.in_ok-values.was
    (rw count at c.bounded_products.ensures.values) in
    let tells =
    answered c.bounded_products.result (λ a. TellsFaults p results n a.1) c.ok.result
    (values, told) c.ok.ensures.value c.in_ok-values.was
    (rw count at c.bounded_products.ensures.fault) in
    of_operator Mul exact l r c.ok-2.result (λ a b. refl)
    (calculated_rows p exact left right l r c.requires.types c.requires.lengths
    (λ i lt. c.requires.left.each i (omega (arith, c.requires.left.count, lt)))
    (λ i lt valid. c.requires.right i (omega (arith, c.requires.lengths, lt)))
    number values.items told (validity_of c.in_ok-validity.validity)
    c.try_primitive.result c.ok-2.result are tells c.if-may_fault.false c.in_ok-validity.ensures
    c.try_primitive.ensures c.ok-2.ensures.value)
