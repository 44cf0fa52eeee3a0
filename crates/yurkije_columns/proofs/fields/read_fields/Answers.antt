use Rattle.yurkije_columns.proofs.ScopesSoFar.{borrowed_wrong}
use Rattle.yurkije_columns.proofs.fields.read_fields.Goals as goal

pub returns-in-Err : goal.returns-in-Err
returns-in-Err c other =
    borrowed_wrong _ _ _ _ c.loop-field-test.true c.loop-field.invariant _ (c.in-Err.ensures other)
