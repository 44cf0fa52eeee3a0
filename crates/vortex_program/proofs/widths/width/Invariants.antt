use Rattle.std.proofs.Common.{◌≡◌}
use Rattle.vortex_program.proofs.WideTrees.{most_first}
use Rattle.vortex_program.proofs.widths.width.Given as goal

-- the most over the answers so far
abbrev pub invariant-loop-answer : goal.invariant-loop-answer
invariant-loop-answer l = l.most ≡ most_first l.answers l.answer-index
