use Rattle.std.proofs.Common.{sym}
use Rattle.vortex_interface.specs.Execution.{uneven}
use Rattle.vortex_functions.proofs.expression.execution.BoundExpression+C.check_columns.Goals as goal

pub returns-in-Some-clause-answer : goal.returns-in-Some-clause-answer
returns-in-Some-clause-answer g c =
    uneven c.in-Some.right (c.in_ok-leaves_fit.ensures.answer.0 c.if-not-branch.false)
    (sym c.in-Some.ensures.other) (search)
