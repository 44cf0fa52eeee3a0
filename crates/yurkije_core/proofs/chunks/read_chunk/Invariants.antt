use Rattle.std.proofs.Common.{ℕ, map, take}
use Rattle.vortex_functions.specs.Walks.{AllMean}
use Rattle.vortex_program.specs.Rows.{HasRows}
use Rattle.yurkije_columns.specs.Batches.{batch_column}
use Rattle.yurkije_core.proofs.chunks.read_chunk.Given as goal

-- the rows of the columns so far
abbrev pub invariant-loop-k : goal.invariant-loop-k
invariant-loop-k l =
    (n : ℕ)
    → AllMean (HasRows l.first l.count) (map (batch_column n) (take l.k l.columns)) l.read.items
