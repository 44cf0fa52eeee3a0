use Rattle.std.proofs.Common.{◌∙◌, List, sym, subst}
use Rattle.vortex_statistics.specs.StatisticsView.{StatisticsView}
use Rattle.vortex_functions.specs.Walks.{AllMean}
use Rattle.vortex_pruning.specs.Groups.{IsOfField}
use Rattle.vortex_pruning.proofs.GroupsPruned.{fields_refused, tree_refused}
use Rattle.vortex_pruning.proofs.GroupsReplaced.{group_of_fields}
use Rattle.vortex_pruning.proofs.groups.prune_group.Goals as goal

pub returns-in-Err-clause-pruned : goal.returns-in-Err-clause-pruned
returns-in-Err-clause-pruned g c =
    fields_refused g.C.ScalarFnVTable.meaning c.args.fields.now c.args.tree.now c.args.group
    c.args.rows c.in-Err.error c.in-Err.ensures

pub returns-in-Err-prune-clause-pruned : goal.returns-in-Err-prune-clause-pruned
returns-in-Err-prune-clause-pruned g c =
    tree_refused g.C.ScalarFnVTable.meaning c.args.fields.now c.args.tree.now c.args.group
    c.args.rows c.deref.result.now c.in-Err-prune.error (c.deref.ensures.value ∙ c.in-Ok.ensures)
    c.in-Err-prune.ensures

pub returns-in-Ok-prune-clause-kept : goal.returns-in-Ok-prune-clause-kept
returns-in-Ok-prune-clause-kept g c =
    let fs = c.args.fields.now in
    subst (λ (ss : List StatisticsView). AllMean IsOfField fs ss) (sym c.in-Ok.ensures)
    (group_of_fields c.args.group c.args.rows fs)
