-- Between over whole columns.
use Rattle.std.specs.Prelude.{◌≡◌, ◌&&◌, ◌||◌, ◌<◌, ℕ, List, length, Bool, false, slice_index_or}
use Rattle.vortex_types.specs.LogicalTypes.{LogicalType, is_nullable}
use Rattle.vortex_types.specs.Order.{compare_values}
use Rattle.vortex_types.specs.ScalarView.{ScalarView}
use Rattle.vortex_types.specs.Values.{Value, truth_of, is_null}
use Rattle.vortex_columns.specs.ColumnView.{ColumnView, row}
use Rattle.vortex_columns.specs.ValidityView.{ValidityView, FitsRows}
use Rattle.vortex_operators.specs.declared.between.BetweenOptions.{BetweenOptions}
use Rattle.vortex_operators.specs.declared.operators.CompareOperator.{CompareOperator}
use Rattle.vortex_operators.specs.Between.{between_value, between_type}
use Rattle.vortex_operators.specs.OperatorValues.{holds, comparison_value}
use Rattle.vortex_kernels.specs.Rows.{HasRows}
use Rattle.vortex_kernels.specs.Truths.{truth_at}

-- in each row whether the value is between its bounds, nullable if any of the three columns is
abbrev pub HasBetweenRows : BetweenOptions → ColumnView → ColumnView → ColumnView → ColumnView
    → Type 0
HasBetweenRows options x lower upper =
    HasRows (between_type x.dtype lower.dtype upper.dtype) (length x.rows)
    (λ i. between_value options (row lower.rows i) (row x.rows i) (row upper.rows i))

-- the comparison of each row as bits, with the rows that are null on neither side
pub record AreCompared (op : CompareOperator) (l r : ColumnView) (bits : List Bool)
    (v : ValidityView) : Type 0 where
  pub count : length bits ≡ length l.rows
  pub fits : FitsRows v (length l.rows)
  pub each : (i : ℕ) → i < length l.rows
      → truth_at bits v i ≡ truth_of (comparison_value op (row l.rows i) (row r.rows i))

-- whether any of three types has null
abbrev pub any_nullable : LogicalType → LogicalType → LogicalType → Bool
any_nullable t lower upper = (is_nullable t || is_nullable lower) || is_nullable upper

-- Between of three scalars
abbrev pub between_scalar : BetweenOptions → ScalarView → ScalarView → ScalarView → ScalarView
between_scalar options x lower upper =
    record {
      dtype = between_type x.dtype lower.dtype upper.dtype;
      value = between_value options lower.value x.value upper.value;
    }

-- no row is null
abbrev pub HasNoNull : List Value → Type 0
HasNoNull vs = (i : ℕ) → i < length vs → is_null (row vs i) ≡ false

-- for each row whether a test is true, and the comparison with its bound, where neither is null
pub record AreBeside (test : ℕ → Bool) (op : CompareOperator) (xs bounds : List Value)
    (bits : List Bool) : Type 0 where
  pub count : length bits ≡ length xs
  pub each : (i : ℕ) → i < length xs → is_null (row xs i) ≡ false
      → is_null (row bounds i) ≡ false
      → slice_index_or bits i false ≡ (test i && holds op
      (compare_values (row xs i) (row bounds i)))

-- for each row whether both comparisons are true, with the lower and the upper bound, where none of
-- the three is null
pub record AreBounded (op other : CompareOperator) (xs lower upper : List Value)
    (bits : List Bool) : Type 0 where
  pub count : length bits ≡ length xs
  pub each : (i : ℕ) → i < length xs → is_null (row xs i) ≡ false → is_null (row lower i) ≡ false
      → is_null (row upper i) ≡ false
      → slice_index_or bits i false
      ≡ (holds op (compare_values (row xs i) (row lower i))
      && holds other (compare_values (row xs i) (row upper i)))
