-- Columns as array trees.
use Rattle.std.proofs.Common.{◌≡◌, ℕ, length}
use Rattle.std.proofs.lemmas.List.FromFn.{length-map-range_with_len}
use Rattle.vortex_types.specs.ScalarView.{ScalarView}
use Rattle.vortex_columns.specs.ColumnView.{constant_column}

pub rows_of_constant : (s : ScalarView) (n : ℕ) → length (constant_column s n).rows ≡ n
rows_of_constant s n = length-map-range_with_len (λ i. s.value) 0 n
