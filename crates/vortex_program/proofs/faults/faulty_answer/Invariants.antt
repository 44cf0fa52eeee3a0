use Rattle.std.proofs.Common.{take}
use Rattle.vortex_standard.specs.Standard.{standard_meaning}
use Rattle.vortex_program.specs.Executing.{AllGive}
use Rattle.vortex_program.specs.Programs.{trees_of}
use Rattle.vortex_program.proofs.faults.faulty_answer.Given as goal

-- no answer so far faults in the row
abbrev pub invariant-loop-k : goal.invariant-loop-k
invariant-loop-k l = AllGive standard_meaning l.columns l.row (trees_of (take l.k l.answers))
