use Rattle.vortex_types.specs.TypeOf.{type_of}
use Rattle.vortex_rewriting.proofs.Kept.{simplified_kept}
use Rattle.vortex_rewriting.proofs.reduce.ScalarFnRefReduceExpression.simplify_expression.Goals as goal

pub returns-clause-kept : goal.returns-clause-kept
returns-clause-kept g c =
    simplified_kept g.met.C.ScalarFnVTable.lawful g.met.C.ScalarFnRules.rules_lawful
    c.args.expression.now (type_of c.dtype-typed.result.now) c.dtype-typed.ensures.dtype
    c.simplify_call.result c.simplify_call.ensures
