-- The true rows of a column, by their row numbers in ascending order.
use Rattle.std.specs.Prelude.{ℕ, Bool, false, List, length}
use Rattle.std.specs.List.{filter, range_with_len}
use Rattle.vortex_types.specs.Values.{Value, truth}
use Rattle.vortex_columns.specs.ColumnView.{row}

abbrev pub is_true : Value → Bool
is_true (truth b) = b
is_true v = false

-- those of the first n rows
abbrev pub true_among : ℕ → List Value → List ℕ
true_among n rows = filter (λ i. is_true (row rows i)) (range_with_len 0 n)

abbrev pub true_rows : List Value → List ℕ
true_rows rows = true_among (length rows) rows
