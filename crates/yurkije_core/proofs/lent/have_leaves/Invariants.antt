use Rattle.std.proofs.Common.{ℕ, map, take}
use Rattle.std.specs.Prelude.{All}
use Rattle.vortex_interface.specs.Execution.{LeavesFit}
use Rattle.yurkije_columns.specs.Batches.{batch_column}
use Rattle.yurkije_core.proofs.lent.have_leaves.Given as goal

-- the answers so far
abbrev pub invariant-loop-answer : goal.invariant-loop-answer
invariant-loop-answer l =
    (n : ℕ)
    → All (LeavesFit (map (batch_column n) l.columns))
    (map (λ a. a.tree) (take l.answer-index l.answers))
