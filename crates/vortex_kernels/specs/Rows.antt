-- A column given by its type and its rows.
use Rattle.std.specs.Prelude.{◌≡◌, ℕ, ◌<◌, length}
use Rattle.vortex_types.specs.LogicalTypes.{LogicalType}
use Rattle.vortex_types.specs.ScalarView.{ScalarView}
use Rattle.vortex_types.specs.Values.{Value}
use Rattle.vortex_columns.specs.ColumnView.{ColumnView, row}

-- the column has the type and the number of rows, and in each row the given value
pub record HasRows (t : LogicalType) (n : ℕ) (f : ℕ → Value) (c : ColumnView) : Type 0 where
  pub dtype : c.dtype ≡ t
  pub count : length c.rows ≡ n
  pub each : (i : ℕ) → i < n → row c.rows i ≡ f i

-- one scalar in each of n rows
abbrev pub HasScalarRows : ScalarView → ℕ → ColumnView → Type 0
HasScalarRows s n = HasRows s.dtype n (λ i. s.value)
