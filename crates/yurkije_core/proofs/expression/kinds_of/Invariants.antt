use Rattle.std.proofs.Common.{◌≡◌, map, take}
use Rattle.yurkije_core.proofs.expression.kinds_of.Given as goal

-- the kinds of the answers so far
abbrev pub invariant-loop-answer : goal.invariant-loop-answer
invariant-loop-answer l = l.kinds.items ≡ map (λ a. a.kind) (take l.answer-index l.answers)
