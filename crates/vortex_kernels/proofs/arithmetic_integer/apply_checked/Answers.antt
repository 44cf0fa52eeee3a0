use Rattle.std.proofs.Common.{sym, ◌∙◌}
use Rattle.vortex_kernels.proofs.SameIntegers.{answers_exact}
use Rattle.vortex_kernels.proofs.arithmetic_integer.apply_checked.Goals as goal

pub returns-clause-exact : goal.returns-clause-exact
returns-clause-exact g c =
    let native = g.T.NativePType.number in
    let same = g.met.T.ArithmeticInteger.same_number in
    let a = native c.args.left in
    let b = native c.args.right in
    let z = native c.apply.result.0 in
    let value = g.O.CheckedPrimitiveOp.value in
    answers_exact g.T.NativePType.ptype g.T.CheckedArithmetic.least g.T.CheckedArithmetic.greatest
    g.met.T.ArithmeticInteger.same_least g.met.T.ArithmeticInteger.same_greatest
    (g.O.CheckedPrimitiveOp.exact a b) (value a b) z (g.met.O.CheckedPrimitiveOp.answers a b)
    (sym (same c.apply.result.0) ∙ c.apply.ensures.value
    ∙ (λ i. value (same c.args.left i) (same c.args.right i)))
