use Rattle.std.proofs.Common.{◌*ℤ◌, ℤ, Some, sym, ap, subst, ◌∙◌}
use Rattle.std.specs.Bool.{FalseIff}
use Rattle.vortex_checked.specs.Exact.{IsWithin}
use Rattle.vortex_kernels.proofs.SameIntegers.{answers_exact, same_range}
use Rattle.vortex_kernels.proofs.arithmetic_integer.multiply_bounded.Goals as goal

pub returns-clause-exact : goal.returns-clause-exact
returns-clause-exact g c =
    let native = g.T.NativePType.number in
    let checked = g.T.CheckedArithmetic in
    let same = g.met.T.ArithmeticInteger.same_number in
    let product = native c.args.number *ℤ native c.args.factor in
    answers_exact g.T.NativePType.ptype checked.least checked.greatest
    g.met.T.ArithmeticInteger.same_least g.met.T.ArithmeticInteger.same_greatest
    (Some product) (checked.wrapped product) (native c.bounded_product.result.0)
    (λ h. ap Some (sym (g.met.T.CheckedArithmetic.keeps product h)))
    (sym (same c.bounded_product.result.0) ∙ c.bounded_product.ensures.value
    ∙ (λ i. checked.wrapped (same c.args.number i *ℤ same c.args.factor i)))

pub returns-clause-fault : goal.returns-clause-fault
returns-clause-fault g c =
    let native = g.T.NativePType.number in
    let checked = g.T.CheckedArithmetic in
    let same = g.met.T.ArithmeticInteger.same_number in
    let told = c.bounded_product.result.1 in
    let range =
    same_range g.T.NativePType.ptype checked.least checked.greatest
    g.met.T.ArithmeticInteger.same_least g.met.T.ArithmeticInteger.same_greatest
    (native c.args.number *ℤ native c.args.factor) in
    subst (λ (A : Type 0). FalseIff told A) range
    (subst (λ (z : ℤ). FalseIff told (IsWithin checked.least checked.greatest z))
    (λ i. same c.args.number i *ℤ same c.args.factor i) c.bounded_product.ensures.fault)
