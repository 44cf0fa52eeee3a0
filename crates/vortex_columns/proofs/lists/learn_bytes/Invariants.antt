use Rattle.std.proofs.Common.{◌<◌, ℕ, [], slice_index_or}
use Rattle.std.specs.Prelude.{All}
use Rattle.vortex_columns.proofs.lists.learn_bytes.Given as goal

abbrev pub invariant-loop-i : goal.invariant-loop-i
invariant-loop-i l = (j : ℕ) → j < l.i
    → All (λ n. n < 256) (slice_index_or l.values j [])
