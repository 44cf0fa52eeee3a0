use Rattle.std.proofs.Common.{add-one}
use Rattle.yurkije_pruning.proofs.Refused.{field_refused, field_more}
use Rattle.yurkije_pruning.proofs.fields.read_statistics.Goals as goal

pub returns-in-Err-read_field : goal.returns-in-Err-read_field
returns-in-Err-read_field c =
    field_refused _ _ _ _ _ _ _ _ _ c.in-Ok.ensures c.loop-k-test.true c.dtype.ensures c.number_at.ensures
    c.in-Err-read_field.ensures

pub loop-k-preserved : goal.loop-k-preserved
loop-k-preserved c =
    rw c.in-Ok-push.ensures.items
    (field_more _ _ _ _ _ _ _ _ _ _ _ (add-one c.loop-k.k) c.loop-k-test.true c.dtype.ensures c.number_at.ensures
    c.loop-k.invariant c.in-Ok-read_field.ensures)
