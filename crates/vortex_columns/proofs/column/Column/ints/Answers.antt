use Rattle.std.proofs.Common.{ap, map}
use Rattle.vortex_columns.specs.Stored.{stored_of}
use Rattle.vortex_columns.proofs.Parts.{match_weaker, ints_none, ints_some}
use Rattle.vortex_columns.proofs.column.Column.ints.Goals as goal

pub returns-in-Rows : goal.returns-in-Rows
returns-in-Rows g c =
    let at = ap stored_of c.in-Rows.is in
    match_weaker _ _ _ _ c.ints.result
    (ints_none c.self.inside _ c.self.view_is c.self.invariant _ _ at g.T.NativePType.ptype)
    (λ xs h.
    ints_some c.self.inside _ c.self.view_is c.self.invariant _ _ at g.T.NativePType.ptype
    (map g.T.NativePType.number xs.now) h)
    c.ints.ensures
