use Rattle.std.proofs.Common.{sym, ap, ◌∙◌}
use Rattle.vortex_types.specs.TypeOf.{type_of}
use Rattle.vortex_interface.specs.Eval.{tree_type}
use Rattle.vortex_rewriting.specs.NodeTrees.{expression_seen}
use Rattle.vortex_rewriting.proofs.Kept.{reduced_kept}
use Rattle.vortex_rewriting.proofs.reduce.ScalarFnRefReduceExpression.reduce_expression.Goals as goal

pub returns-clause-kept : goal.returns-clause-kept
returns-clause-kept g c =
    reduced_kept g.met.C.ScalarFnVTable.lawful g.met.C.ScalarFnRules.rules_lawful expression_seen
    (expression_seen c.args.node.now) (type_of c.dtype-typed.result.now)
    (ap (tree_type g.C.ScalarFnVTable.meaning) (sym c.expression.ensures)
    ∙ c.dtype-typed.ensures.dtype) c.reduce_call.result c.reduce_call.ensures
