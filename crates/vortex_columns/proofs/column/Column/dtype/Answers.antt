use Rattle.vortex_columns.proofs.StoredRows.{opened_typed}
use Rattle.vortex_columns.proofs.column.Column.dtype.Goals as goal

pub returns-clause-typed : goal.returns-clause-typed
returns-clause-typed c = opened_typed c.self.inside _ c.self.view_is c.self.invariant
