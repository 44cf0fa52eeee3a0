use Rattle.std.proofs.Common.{sym, ap, subst, ◌∙◌}
use Rattle.vortex_types.specs.TypeOf.{type_of}
use Rattle.vortex_interface.specs.Eval.{tree_type}
use Rattle.vortex_functions.specs.Arrays.{tree_in, IsTyped}
use Rattle.vortex_rewriting.specs.NodeTrees.{array_of, array_seen}
use Rattle.vortex_rewriting.proofs.ValuesKept.{values_kept}
use Rattle.vortex_rewriting.proofs.Kept.{reduced_kept}
use Rattle.vortex_rewriting.proofs.reduce_array.ScalarFnRefReduceArray.reduce_array.Goals as goal

pub returns-clause-kept : goal.returns-clause-kept
returns-clause-kept g c =
    reduced_kept g.met.C.ScalarFnVTable.lawful g.met.C.ScalarFnRules.rules_lawful array_seen
    (array_seen c.args.node.now) (type_of c.dtype-typed.result.now)
    (ap (λ a. tree_type g.C.ScalarFnVTable.meaning (tree_in a)) (sym c.array.ensures)
    ∙ c.dtype-typed.ensures.dtype) c.reduce_call.result c.reduce_call.ensures

-- for an array that is typed in each row
pub returns-clause-values : goal.returns-clause-values
returns-clause-values g c =
    values_kept g.C.ScalarFnVTable.meaning (array_of c.args.node.now)
    (subst IsTyped c.array.ensures c.dtype-typed.ensures.typed) c.reduce_call.result
    (returns-clause-kept g c)
