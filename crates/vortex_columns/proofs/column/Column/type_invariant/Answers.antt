use Rattle.vortex_columns.proofs.StoredRows.{opened_told}
use Rattle.vortex_columns.proofs.column.Column.type_invariant.Goals as goal

pub returns : goal.returns
returns c = opened_told c.self.inside _ c.self.view_is c.self.invariant
