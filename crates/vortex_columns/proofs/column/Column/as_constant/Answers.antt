use Rattle.std.proofs.Common.{ap}
use Rattle.vortex_columns.specs.Stored.{stored_of}
use Rattle.vortex_columns.proofs.Parts.{opened_constant}
use Rattle.vortex_columns.proofs.column.Column.as_constant.Goals as goal

pub returns-in-Constant : goal.returns-in-Constant
returns-in-Constant c =
    opened_constant c.self.inside _ c.in-Constant.scalar c.self.view_is c.self.invariant
    (ap stored_of c.in-Constant.is)
