use Rattle.vortex_functions.specs.FunctionOf.{function_of}
use Rattle.vortex_functions.proofs.ExpressionCalls.{bound_as_call}
use Rattle.vortex_functions.proofs.expression.BoundExpression+C.try_new.Goals as goal

pub returns : goal.returns
returns g c =
    bound_as_call g.C.ScalarFnVTable.meaning (function_of c.args.function) c.args.children.items
    c.try_call.result c.try_call.ensures
