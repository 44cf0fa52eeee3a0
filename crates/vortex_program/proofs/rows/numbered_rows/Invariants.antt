use Rattle.std.proofs.Common.{take, length}
use Rattle.vortex_program.specs.Rows.{numbered}
use Rattle.vortex_program.proofs.TakenRows.{ArePartsFrom}
use Rattle.vortex_program.proofs.rows.numbered_rows.Given as goal

-- the columns so far
abbrev pub invariant-loop-k : goal.invariant-loop-k
invariant-loop-k l =
    ArePartsFrom (numbered l.numbers) (length l.numbers) l.read 0 (take l.k l.columns) l.taken.items
