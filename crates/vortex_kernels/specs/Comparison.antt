-- Comparison of two values by their order, and of two whole columns.
use Rattle.std.specs.Prelude.{◌≡◌, ◌≢◌, ℕ, ◌<◌, List, ◌||◌, ◌&&◌, Bool, true, false, length, nat_eq}
use Rattle.std.specs.Prelude.{slice_index_or, Option, Some, None, is_some, if◌then◌else◌}
use Rattle.std.specs.declared.cmp.Ordering.{Ordering}
use Rattle.vortex_errors.specs.declared.error.VortexError.{VortexError}
use Rattle.vortex_errors.specs.declared.error.VortexError.TheVariants.{LengthMismatch, TypeMismatch}
use Rattle.vortex_errors.specs.declared.error.MismatchPlace.{MismatchPlace}
use Rattle.vortex_errors.specs.declared.error.MismatchPlace.TheVariants as place
use Rattle.vortex_types.specs.TypeEquality.{alike_types}
use Rattle.vortex_types.specs.Values.{Value, is_null}
use Rattle.vortex_types.specs.Order.{compare_values}
use Rattle.vortex_types.specs.ScalarView.{ScalarView}
use Rattle.vortex_columns.specs.ColumnView.{ColumnView, row, is_bytes_like, bytes_value}
use Rattle.vortex_operators.specs.declared.operators.CompareOperator.{CompareOperator}
use Rattle.vortex_operators.specs.OperatorValues.{holds, comparison_value, comparison_type}
use Rattle.vortex_kernels.specs.Rows.{HasRows}
use Rattle.vortex_bits.specs.Rows.{AreRows}

-- two scalars; any types where one is null
abbrev pub compared_scalar : CompareOperator → ScalarView → ScalarView → ScalarView
compared_scalar op a b =
    record { dtype = comparison_type a.dtype b.dtype; value = comparison_value op a.value b.value }

abbrev pub are_comparable : ScalarView → ScalarView → Bool
are_comparable a b = (is_null a.value || is_null b.value) || alike_types a.dtype b.dtype

abbrev pub AnswersScalars : CompareOperator → ScalarView → ScalarView → ScalarView → Type 0
AnswersScalars op a b s = (are_comparable a b ≡ true) × (s ≡ compared_scalar op a b)

abbrev pub RefusesScalars : ScalarView → ScalarView → VortexError → Type 0
RefusesScalars a b e = (are_comparable a b ≡ false) × (e ≡ TypeMismatch place.Scalars)

-- a constant column of a null
abbrev pub is_null_scalar : Option ScalarView → Bool
is_null_scalar None = false
is_null_scalar (Some s) = is_null s.value

abbrev pub is_null_constant : ColumnView → Bool
is_null_constant c = is_null_scalar c.constant

-- no rows, or a null constant on a side: decided before types are compared
abbrev pub is_settled : ColumnView → ColumnView → Bool
is_settled l r = nat_eq (length l.rows) 0 || (is_null_constant l || is_null_constant r)

abbrev pub HasComparisonRows : CompareOperator → ColumnView → ColumnView → ColumnView → Type 0
HasComparisonRows op l r =
    HasRows (comparison_type l.dtype r.dtype) (length l.rows)
    (λ i. comparison_value op (row l.rows i) (row r.rows i))

-- where types that differ apart from nullability are an error: two constants are compared as
-- scalars
abbrev pub compare_place : ColumnView → ColumnView → MismatchPlace
compare_place l r =
    if is_some l.constant && is_some r.constant then place.Scalars else place.Compare

-- first the error for columns of two lengths, then for types that differ apart from nullability,
-- unless the result is decided without them
pub data RefusesCompare (l r : ColumnView) (e : VortexError) : Type 0 where
  uneven : length l.rows ≢ length r.rows → e ≡ LengthMismatch (length l.rows) (length r.rows)
      → RefusesCompare l r e
  unlike : length l.rows ≡ length r.rows → is_settled l r ≡ false
      → alike_types l.dtype r.dtype ≡ false → e ≡ TypeMismatch (compare_place l r)
      → RefusesCompare l r e

pub record AnswersCompare (op : CompareOperator) (l r c : ColumnView) : Type 0 where
  pub lengths : length l.rows ≡ length r.rows
  pub accepted : (is_settled l r || alike_types l.dtype r.dtype) ≡ true
  pub rows : HasComparisonRows op l r c

-- for each of n rows whether the comparison is true for its order
abbrev pub AreHeld : CompareOperator → (ℕ → Ordering) → ℕ → List Bool → Type 0
AreHeld op order n = AreRows n (λ i. holds op (order i))

-- the same value in each row
abbrev pub IsConstantOf : Value → ColumnView → Type 0
IsConstantOf v c = (i : ℕ) → i < length c.rows → row c.rows i ≡ v

-- the bytes of a constant column
pub record IsConstantBytes (c : ColumnView) (bs : List ℕ) : Type 0 where
  pub like : is_bytes_like c.dtype ≡ true
  pub rows : IsConstantOf (bytes_value c.dtype bs) c

-- the order of two rows, where neither is null
abbrev pub IsOrderAt : List Value → List Value → ℕ → Ordering → Type 0
IsOrderAt ls rs i o = is_null (row ls i) ≡ false → is_null (row rs i) ≡ false
    → o ≡ compare_values (row ls i) (row rs i)

-- for each row whether the comparison is true, where neither side is null
pub record AreComparisons (op : CompareOperator) (ls rs : List Value) (bits : List Bool) : Type 0
  where
    pub count : length bits ≡ length ls
    pub each : (i : ℕ) → i < length ls → is_null (row ls i) ≡ false → is_null (row rs i) ≡ false
        → slice_index_or bits i false ≡ holds op (compare_values (row ls i) (row rs i))
