use Rattle.std.proofs.Common.{ap}
use Rattle.vortex_columns.specs.Stored.{stored_of}
use Rattle.vortex_columns.proofs.Parts.{match_weaker, field_none, field_some}
use Rattle.vortex_columns.proofs.column.Column.field.Goals as goal

pub returns-in-Rows : goal.returns-in-Rows
returns-in-Rows c =
    let at = ap stored_of c.in-Rows.is in
    match_weaker _ _ _ _ c.field.result
    (field_none c.self.inside _ c.self.view_is c.self.invariant _ _ at c.args.k)
    (λ x h. field_some c.self.inside _ c.self.view_is c.self.invariant _ _ at c.args.k x.now h)
    c.field.ensures
