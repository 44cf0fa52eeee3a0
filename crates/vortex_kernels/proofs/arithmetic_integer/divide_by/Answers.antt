use Rattle.std.proofs.Common.{ℤ, Some, sym, ap, subst, ◌∙◌}
use Rattle.vortex_checked.specs.Exact.{IsWithin, quotient}
use Rattle.vortex_kernels.specs.ArithmeticIntegers.{FitsResult}
use Rattle.vortex_kernels.proofs.SameIntegers.{same_range}
use Rattle.vortex_kernels.proofs.arithmetic_integer.divide_by.Goals as goal

pub returns-clause-exact : goal.returns-clause-exact
returns-clause-exact g c =
    let same = g.met.T.ArithmeticInteger.same_number in
    let divisor = g.D.Divisor.value c.args.divisor.now in
    ap Some (sym (same c.divide.result)) ∙ c.divide.ensures.exact
    ∙ ap (λ (z : ℤ). quotient z divisor) (same c.args.number)

pub returns-clause-fits : goal.returns-clause-fits
returns-clause-fits g c =
    let checked = g.T.CheckedArithmetic in
    let same = g.met.T.ArithmeticInteger.same_number in
    let z = g.T.NativePType.number c.divide.result in
    let range =
    same_range g.T.NativePType.ptype checked.least checked.greatest
    g.met.T.ArithmeticInteger.same_least g.met.T.ArithmeticInteger.same_greatest z in
    subst (FitsResult g.T.NativePType.ptype) (returns-clause-exact g c)
    (subst (λ (A : Type 0). A) range
    (subst (λ (y : ℤ). IsWithin checked.least checked.greatest y) (same c.divide.result)
    c.divide.ensures.fits))
