use Rattle.std.proofs.Common.{ℤ, Some, sym, ap, subst, ◌∙◌}
use Rattle.vortex_checked.specs.Exact.{IsWithin, quotient}
use Rattle.vortex_kernels.specs.ArithmeticIntegers.{FitsResult}
use Rattle.vortex_kernels.proofs.SameIntegers.{same_range}
use Rattle.vortex_kernels.proofs.arithmetic_integer.by_guess.Goals as goal

pub returns-clause-exact : goal.returns-clause-exact
returns-clause-exact g c is =
    let same = g.met.T.ArithmeticInteger.same_number in
    ap Some (sym (same c.by_guess.result.0)) ∙ c.by_guess.ensures.exact is
    ∙ (λ i. quotient (same c.args.left i) (same c.args.right i))

pub returns-clause-fits : goal.returns-clause-fits
returns-clause-fits g c is =
    let checked = g.T.CheckedArithmetic in
    let same = g.met.T.ArithmeticInteger.same_number in
    let z = g.T.NativePType.number c.by_guess.result.0 in
    let range =
    same_range g.T.NativePType.ptype checked.least checked.greatest
    g.met.T.ArithmeticInteger.same_least g.met.T.ArithmeticInteger.same_greatest z in
    subst (FitsResult g.T.NativePType.ptype) (returns-clause-exact g c is)
    (subst (λ (A : Type 0). A) range
    (subst (λ (y : ℤ). IsWithin checked.least checked.greatest y)
    (same c.by_guess.result.0) c.by_guess.ensures.fits))
