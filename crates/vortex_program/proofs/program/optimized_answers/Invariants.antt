use Rattle.std.proofs.Common.{take}
use Rattle.vortex_program.specs.Programs.{AreOptimized}
use Rattle.vortex_program.proofs.program.optimized_answers.Given as goal

-- the answers so far
abbrev pub invariant-loop-answer : goal.invariant-loop-answer
invariant-loop-answer l = AreOptimized (take l.answer-index l.written) l.answers.items
