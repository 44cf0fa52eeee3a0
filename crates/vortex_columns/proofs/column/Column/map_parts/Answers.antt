use Rattle.std.proofs.Common.{ap}
use Rattle.vortex_columns.specs.Stored.{stored_of}
use Rattle.vortex_columns.proofs.Parts.{match_weaker, maps_none, maps_some}
use Rattle.vortex_columns.proofs.column.Column.map_parts.Goals as goal

pub returns-in-Rows : goal.returns-in-Rows
returns-in-Rows c =
    let at = ap stored_of c.in-Rows.is in
    match_weaker _ _ _ _ c.map_parts.result
    (maps_none c.self.inside _ c.self.view_is c.self.invariant _ _ at)
    (λ p h.
    maps_some c.self.inside _ c.self.view_is c.self.invariant _ _ at p.0.now p.1.now p.2.now
    p.3.now h)
    c.map_parts.ensures
