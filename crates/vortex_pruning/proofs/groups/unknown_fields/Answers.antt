use Rattle.std.proofs.Common.{add-one, sym}
use Rattle.vortex_pruning.proofs.GroupsReplaced.{one_more_unknown}
use Rattle.vortex_pruning.proofs.groups.unknown_fields.Goals as goal

pub loop-number-preserved : goal.loop-number-preserved
loop-number-preserved c =
    rw (
      c.in_ok-push.ensures.items,
      c.unknown.ensures.parts,
      c.in_ok-dtype.ensures,
      sym c.index-fields-number.is,
    )
    (one_more_unknown c.loop-number.number _ c.args.fields.now c.loop-number.found.items
    c.index-fields-number.result (add-one c.loop-number.number) c.loop-number.invariant
    c.loop-number-test.true c.index-fields-number.is)
