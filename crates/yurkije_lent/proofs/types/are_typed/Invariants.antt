use Rattle.std.proofs.Common.{ℕ, take}
use Rattle.std.specs.Prelude.{All}
use Rattle.vortex_columns.specs.ColumnView.{AreTyped}
use Rattle.yurkije_columns.specs.Batches.{batch_column}
use Rattle.yurkije_lent.proofs.types.are_typed.Given as goal

-- the rows of the columns so far have their types
abbrev pub invariant-loop-k : goal.invariant-loop-k
invariant-loop-k l =
    (n : ℕ)
    → All (λ o. AreTyped (batch_column n o).dtype (batch_column n o).rows) (take l.k l.columns)
