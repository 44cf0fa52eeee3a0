use Rattle.std.proofs.Common.{ap}
use Rattle.vortex_views.specs.BorrowedValues.{borrowed_values}
use Rattle.vortex_columns.specs.Stored.{stored_of}
use Rattle.vortex_columns.proofs.Parts.{match_weaker, bytes_none, bytes_some}
use Rattle.vortex_columns.proofs.column.Column.views.Goals as goal

pub returns-in-Rows : goal.returns-in-Rows
returns-in-Rows c =
    let at = ap stored_of c.in-Rows.is in
    match_weaker _ _ _ _ c.views.result
    (bytes_none c.self.inside _ c.self.view_is c.self.invariant _ _ at)
    (λ x h. bytes_some c.self.inside _ c.self.view_is c.self.invariant _ _ at (borrowed_values x) h.0
    h.1)
    c.views.ensures
