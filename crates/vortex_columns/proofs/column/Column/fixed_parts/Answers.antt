use Rattle.std.proofs.Common.{ap}
use Rattle.vortex_columns.specs.Stored.{stored_of}
use Rattle.vortex_columns.proofs.Parts.{match_weaker, fixed_none, fixed_some}
use Rattle.vortex_columns.proofs.column.Column.fixed_parts.Goals as goal

pub returns-in-Rows : goal.returns-in-Rows
returns-in-Rows c =
    let at = ap stored_of c.in-Rows.is in
    match_weaker _ _ _ _ c.fixed_parts.result
    (fixed_none c.self.inside _ c.self.view_is c.self.invariant _ _ at)
    (λ p h. fixed_some c.self.inside _ c.self.view_is c.self.invariant _ _ at p.0.now p.1 h)
    c.fixed_parts.ensures
