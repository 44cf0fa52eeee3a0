use Rattle.std.proofs.Common.{take}
use Rattle.vortex_functions.specs.Walks.{AllMean}
use Rattle.vortex_pruning.specs.Groups.{PruneAll, IsOfField}
use Rattle.vortex_pruning.proofs.groups.prune_groups.Given as goal

-- the groups so far, and statistics with the types of the fields
abbrev pub invariant-loop-group : goal.invariant-loop-group
invariant-loop-group g l =
    PruneAll g.C.ScalarFnVTable.meaning l.fields l.tree (take l.group l.rows) l.found.items
    × AllMean IsOfField l.fields l.statistics.items
