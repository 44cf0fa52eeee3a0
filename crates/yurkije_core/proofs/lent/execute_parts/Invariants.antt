use Rattle.std.proofs.Common.{map, take}
use Rattle.vortex_interface.specs.Execution.{Executes}
use Rattle.vortex_functions.specs.Walks.{AllMean}
use Rattle.vortex_expressions.specs.Items.{meaning}
use Rattle.yurkije_columns.specs.Batches.{batch_column}
use Rattle.yurkije_core.proofs.lent.execute_parts.Given as goal

-- the columns of the answers so far
abbrev pub invariant-loop-answer : goal.invariant-loop-answer
invariant-loop-answer l =
    AllMean (Executes meaning (map (batch_column l.count) l.parts) l.count)
    (map (λ a. a.tree) (take l.answer-index l.answers)) l.columns.items
