use Rattle.std.proofs.Common.{ℕ, map, take}
use Rattle.vortex_functions.specs.Walks.{AllMean}
use Rattle.vortex_program.specs.Rows.{HasRows}
use Rattle.yurkije_columns.specs.Batches.{batch_column}
use Rattle.yurkije_core.proofs.parts.parts_of.Given as goal

-- the rows of the columns so far
abbrev pub invariant-loop-k : goal.invariant-loop-k
invariant-loop-k l =
    (n : ℕ)
    → AllMean (HasRows l.first l.count) (map (batch_column n) (take l.k l.columns))
    (map (batch_column l.count) l.parts.items)
