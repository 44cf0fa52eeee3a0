use Rattle.std.proofs.Common.{ap}
use Rattle.vortex_columns.specs.Stored.{stored_of}
use Rattle.vortex_columns.proofs.Parts.{match_weaker, bits_none, bits_some}
use Rattle.vortex_columns.proofs.column.Column.bits.Goals as goal

pub returns-in-Rows : goal.returns-in-Rows
returns-in-Rows c =
    let at = ap stored_of c.in-Rows.is in
    match_weaker _ _ _ _ c.bits.result
    (bits_none c.self.inside _ c.self.view_is c.self.invariant _ _ at)
    (λ x h. bits_some c.self.inside _ c.self.view_is c.self.invariant _ _ at x.now h) c.bits.ensures
