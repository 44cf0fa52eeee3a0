use Rattle.std.proofs.Common.{add-one, refl}
use Rattle.vortex_pruning.specs.Groups.{statistics_in}
use Rattle.vortex_pruning.specs.Pruning.{Prunes}
use Rattle.vortex_pruning.proofs.GroupsPruned.{group_refused, all_more}
use Rattle.vortex_pruning.proofs.groups.prune_groups.Goals as goal

pub returns-in-Err : goal.returns-in-Err
returns-in-Err g c =
    group_refused g.C.ScalarFnVTable.meaning c.args.fields.now c.args.tree.now c.args.rows.now
    c.loop-group.group c.in-Err.error c.loop-group-test.true c.in-Err.ensures.pruned

pub loop-group-preserved : goal.loop-group-preserved
loop-group-preserved g c =
    let m = g.C.ScalarFnVTable.meaning in
    let fs = c.args.fields.now in
    let t = c.args.tree.now in (
      rw c.in-Ok-push.ensures.items
          (all_more (λ g n p. Prunes m n (statistics_in g n fs) t p) 0 _ c.in-Ok-prune_group.pruned
          c.args.rows.now c.loop-group.found.items c.loop-group.group _ (add-one c.loop-group.group)
          c.loop-group-test.true refl c.loop-group.invariant.0 c.in-Ok-prune_group.ensures.pruned),
      c.in-Ok-prune_group.ensures.kept,
    )
