-- The stored integers of two sides, row by row, and the column of the results.
use Rattle.std.specs.Prelude.{◌≡◌, ◌<◌, ℕ, ℤ, pos, List, [], ◌∷◌, length, slice_index_or}
use Rattle.vortex_types.specs.declared.dtype.PType.TheVariants.{I64}
use Rattle.vortex_types.specs.LogicalTypes.{integer_type}
use Rattle.vortex_types.specs.Values.{number}
use Rattle.vortex_columns.specs.ColumnView.{ColumnView, row, IsUnlessNull}
use Rattle.vortex_columns.specs.ValidRows.{either_nullable}
use Rattle.vortex_interface.specs.Outcomes.{gives}
use Rattle.vortex_sql_rows.specs.Row.{row_gives}
use Rattle.vortex_sql_floats.specs.declared.floats.FloatOperator.{FloatOperator}
use Rattle.vortex_sql_floats.specs.ArithmeticRows.{arithmetic, operator_row}

-- the integer of the result in each of n rows, of which none faults
pub record AreKeys (op : FloatOperator) (left right : ℕ → ℤ) (n : ℕ) (keys : List ℤ) : Type 0 where
  pub count : length keys ≡ n
  pub each : (i : ℕ) → i < n
      → arithmetic op (left i) (right i) ≡ gives (number (slice_index_or keys i (pos 0)))

-- an integer for each row, which is the row's where it is not null
pub record AreRowKeys (c : ColumnView) (has_row : ℕ → Type 0) (key_at : ℕ → ℤ) : Type 0 where
  pub there : (i : ℕ) → i < length c.rows → has_row i
  pub each : (i : ℕ) → i < length c.rows → IsUnlessNull (row c.rows i) (number (key_at i))

-- the operator's column of two columns
pub record HasFloatRows (op : FloatOperator) (l r c : ColumnView) : Type 0 where
  pub dtype : c.dtype ≡ integer_type I64 (either_nullable l r)
  pub count : length c.rows ≡ length l.rows
  pub each : (i : ℕ) → i < length l.rows
      → row_gives (operator_row op) I64 (row l.rows i ∷ row r.rows i ∷ []) ≡ gives (row c.rows i)
