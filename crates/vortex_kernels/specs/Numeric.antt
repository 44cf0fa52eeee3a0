-- Arithmetic of two whole columns of one integer type.
use Rattle.std.specs.Prelude.{◌≡◌, ◌≢◌, ℕ, ◌<◌, ℤ, pos, Bool, true, false, List, length}
use Rattle.std.specs.Prelude.{Option, Some, None, slice_index_or}
use Rattle.vortex_types.specs.declared.dtype.PType.{PType}
use Rattle.vortex_errors.specs.declared.error.NumericOperator.{NumericOperator}
use Rattle.vortex_errors.specs.declared.error.VortexError.{VortexError}
use Rattle.vortex_errors.specs.declared.error.VortexError.TheVariants.{Arithmetic, LengthMismatch}
use Rattle.vortex_errors.specs.declared.error.VortexError.TheVariants.{TypeMismatch}
use Rattle.vortex_errors.specs.declared.error.MismatchPlace.TheVariants as place
use Rattle.vortex_types.specs.LogicalTypes.{LogicalType, integer_type, is_nullable}
use Rattle.vortex_types.specs.LogicalTypes.{with_nullability}
use Rattle.vortex_types.specs.ScalarView.{ScalarView}
use Rattle.vortex_types.specs.Values.{Value, null, number, is_null}
use Rattle.vortex_columns.specs.ColumnView.{ColumnView, row, IsUnlessNull}
use Rattle.vortex_operators.specs.Arithmetic.{arithmetic_value, integer_of_both, exact_result}
use Rattle.vortex_kernels.specs.ArithmeticIntegers.{FitsResult, AnswersExact}
use Rattle.vortex_kernels.specs.Comparison.{IsConstantOf}
use Rattle.vortex_columns.specs.ValidRows.{either_nullable}

-- the value in row i; none where it faults
abbrev pub numeric_row : NumericOperator → PType → ColumnView → ColumnView → ℕ → Option Value
numeric_row op p l r i = arithmetic_value op p (row l.rows i) (row r.rows i)

-- the type of both sides, nullable if either is, as many rows, and in each row the value
pub record HasNumericRows (op : NumericOperator) (p : PType) (l r c : ColumnView) : Type 0 where
  pub dtype : c.dtype ≡ integer_type p (either_nullable l r)
  pub count : length c.rows ≡ length l.rows
  pub each : (i : ℕ) → i < length l.rows → numeric_row op p l r i ≡ Some (row c.rows i)

pub record AnswersNumeric (op : NumericOperator) (l r c : ColumnView) : Type 0 where
  pub ptype : PType
  pub accepted : integer_of_both l.dtype r.dtype ≡ Some ptype
  pub lengths : length l.rows ≡ length r.rows
  pub rows : HasNumericRows op ptype l r c

-- first the error for types that are not one integer type apart from nullability, then for two
-- lengths, then for a row that faults
pub data RefusesNumeric (op : NumericOperator) (l r : ColumnView) (e : VortexError) : Type 0 where
  unlike : integer_of_both l.dtype r.dtype ≡ None → e ≡ TypeMismatch place.Arithmetic
      → RefusesNumeric op l r e
  uneven : (p : PType) → integer_of_both l.dtype r.dtype ≡ Some p
      → length l.rows ≢ length r.rows → e ≡ LengthMismatch (length l.rows) (length r.rows)
      → RefusesNumeric op l r e
  faulty : (p : PType) (i : ℕ) → integer_of_both l.dtype r.dtype ≡ Some p
      → length l.rows ≡ length r.rows → i < length l.rows → numeric_row op p l r i ≡ None
      → e ≡ Arithmetic op → RefusesNumeric op l r e

-- the exact result of the operator
abbrev pub IsExactOf : NumericOperator → (ℤ → ℤ → Option ℤ) → Type 0
IsExactOf op exact = (a b : ℤ) → exact a b ≡ exact_result op a b

-- from the two numbers in each row
abbrev pub row_results : (ℤ → ℤ → Option ℤ) → (ℕ → ℤ) → (ℕ → ℤ) → ℕ → Option ℤ
row_results exact left right i = exact (left i) (right i)

-- from the numbers of a list and one number
abbrev pub results_by : (ℤ → ℤ → Option ℤ) → List ℤ → ℤ → ℕ → Option ℤ
results_by exact ns z i = exact (slice_index_or ns i (pos 0)) z

-- a number for each row, which is the row's where it is not null
pub record AreNumbers (c : ColumnView) (has_row : ℕ → Type 0) (number_at : ℕ → ℤ) : Type 0 where
  pub there : (i : ℕ) → i < length c.rows → has_row i
  pub each : (i : ℕ) → i < length c.rows → IsUnlessNull (row c.rows i) (number (number_at i))

-- a number for each of n rows: the exact result, where the integer type holds it
pub record AreResults (p : PType) (exact : ℕ → Option ℤ) (n : ℕ) (ns : List ℤ) : Type 0 where
  pub count : length ns ≡ n
  pub each : (i : ℕ) → i < n → AnswersExact p (exact i) (slice_index_or ns i (pos 0))

-- if no fault is flagged, the integer type holds the result of each of n rows
abbrev pub TellsFaults : PType → (ℕ → Option ℤ) → ℕ → Bool → Type 0
TellsFaults p exact n told = told ≡ false → (i : ℕ) → i < n → FitsResult p (exact i)

-- neither side is null in the row
abbrev pub IsValidPair : ColumnView → ColumnView → ℕ → Type 0
IsValidPair l r i = (is_null (row l.rows i) ≡ false) × (is_null (row r.rows i) ≡ false)

-- the integer type holds the result of each of the first n rows that are null on neither side
abbrev pub FitWhereValid : PType → (ℕ → Option ℤ) → ColumnView → ColumnView → ℕ → Type 0
FitWhereValid p exact l r n = (i : ℕ) → i < n → IsValidPair l r i → FitsResult p (exact i)

-- neither side is null in the row, and the integer type does not hold the result
pub record FaultsAt (p : PType) (exact : ℕ → Option ℤ) (l r : ColumnView) (i : ℕ) : Type 0 where
  pub inside : i < length l.rows
  pub valid : IsValidPair l r i
  pub fault : ¬ FitsResult p (exact i)

-- the null of a type made nullable
abbrev pub null_of : LogicalType → ScalarView
null_of t = record { dtype = with_nullability t true; value = null }

-- a nullable column of nulls
pub record IsNullColumn (c : ColumnView) : Type 0 where
  pub nullable : is_nullable c.dtype ≡ true
  pub rows : IsConstantOf null c
