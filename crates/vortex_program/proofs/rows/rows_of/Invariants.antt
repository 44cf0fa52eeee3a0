use Rattle.std.proofs.Common.{take}
use Rattle.vortex_program.specs.Rows.{from}
use Rattle.vortex_program.proofs.TakenRows.{ArePartsFrom}
use Rattle.vortex_program.proofs.rows.rows_of.Given as goal

-- the columns so far
abbrev pub invariant-loop-k : goal.invariant-loop-k
invariant-loop-k l = ArePartsFrom (from l.first) l.count l.read 0 (take l.k l.columns) l.taken.items
