use Rattle.vortex_columns.proofs.StoredRows.{opened_len}
use Rattle.vortex_columns.proofs.column.Column.len.Goals as goal

pub returns : goal.returns
returns c = opened_len c.self.inside _ c.self.view_is
