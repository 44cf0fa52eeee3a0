use Rattle.std.proofs.Common.{◌+◌, take}
use Rattle.vortex_standard.specs.Standard.{standard_meaning}
use Rattle.vortex_program.specs.Executing.{AllGiveWithin}
use Rattle.vortex_program.specs.Programs.{trees_of}
use Rattle.vortex_program.proofs.faults.faults_within.Given as goal

-- no answer so far faults in one of the rows
abbrev pub invariant-loop-answer : goal.invariant-loop-answer
invariant-loop-answer l =
    AllGiveWithin standard_meaning l.columns l.first (l.first + l.count)
    (trees_of (take l.answer-index l.answers))
