use Rattle.std.proofs.Common.{subst, sym}
use Rattle.vortex_kernels.specs.NullTests.{HasTests}
use Rattle.vortex_interface.specs.Shipped.NullTestFunctions.{null_test_value}
use Rattle.yurkije_lent.specs.Operands.{operand_column, HasNullsOf}
use Rattle.yurkije_lent.proofs.Dropped.{some_of}
use Rattle.yurkije_lent.proofs.NullTests.{same_tests}
use Rattle.yurkije_lent.proofs.null_tests.test_nulls.Goals as goal

pub returns : goal.returns
returns c =
    let negated = c.args.negated in
    let x = operand_column c.args.operand.now in
    let nulls = c.deref.result.now in
    some_of (HasTests (null_test_value negated) nulls) (HasTests (null_test_value negated) x)
    (λ d h.
    same_tests negated x nulls d (subst (HasNullsOf x) (sym c.deref.ensures) c.in_ok-nulls.ensures) h)
    c.test_column.result c.ok.result c.ok.ensures.value c.test_column.ensures
