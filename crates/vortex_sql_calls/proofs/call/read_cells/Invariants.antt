use Rattle.std.proofs.Common.{take}
use Rattle.vortex_interface.specs.Outcomes.{values_at}
use Rattle.vortex_sql_calls.specs.Calls.{AreRowCells}
use Rattle.vortex_sql_calls.proofs.call.read_cells.Given as goal

-- the cells of the inputs so far
abbrev pub invariant-loop-k : goal.invariant-loop-k
invariant-loop-k g l =
    AreRowCells (values_at (take l.k (g.A.ExecutionArgs.inputs l.args)) l.i) l.cells.items
