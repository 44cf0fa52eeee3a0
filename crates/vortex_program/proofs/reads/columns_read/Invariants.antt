use Rattle.vortex_program.proofs.ReadColumns.{FirstRead}
use Rattle.vortex_program.proofs.reads.columns_read.Given as goal

-- the columns that the answers so far read
abbrev pub invariant-loop-answer : goal.invariant-loop-answer
invariant-loop-answer l = FirstRead l.answers l.answer-index l.count l.read.items
