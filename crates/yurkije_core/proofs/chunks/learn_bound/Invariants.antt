use Rattle.std.proofs.Common.{map, take}
use Rattle.std.specs.Prelude.{All}
use Rattle.vortex_interface.specs.Bound.{IsBound}
use Rattle.yurkije_core.proofs.chunks.learn_bound.Given as goal

-- the trees so far
abbrev pub invariant-loop-answer : goal.invariant-loop-answer
invariant-loop-answer l = All IsBound (map (λ a. a.tree) (take l.answer-index l.answers))
