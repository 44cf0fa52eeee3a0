-- The rows of a dictionary, and a kernel's result for its values.
use Rattle.std.proofs.Common.{◌≡◌, ℕ, ◌<◌, Bool, true, false, List, length, refl, sym, ap, ◌∙◌}
use Rattle.std.proofs.Common.{map, subst, arith}
use Rattle.std.specs.Prelude.{◌||◌, ◌&&◌, is_some, slice_index}
use Rattle.std.proofs.lemmas.List.{get_or-map, length-map}
use Rattle.std.proofs.lemmas.List.FromFn.{length-map-range_with_len}
use Rattle.vortex_errors.specs.declared.error.VortexError.{VortexError}
use Rattle.vortex_types.specs.LogicalTypes.{LogicalType, bool_type, is_nullable}
use Rattle.vortex_types.specs.ScalarView.{ScalarView}
use Rattle.vortex_types.specs.TypeEquality.{alike_types}
use Rattle.vortex_types.specs.Values.{Value, null}
use Rattle.vortex_columns.specs.ColumnView.{ColumnView, row, constant_column}
use Rattle.vortex_columns.specs.Taken.{AreRowsOf, IsTaken}
use Rattle.vortex_operators.specs.declared.operators.CompareOperator.{CompareOperator}
use Rattle.vortex_operators.specs.declared.operators.Operator.{Operator}
use Rattle.vortex_operators.specs.Operators.{is_boolean}
use Rattle.vortex_operators.specs.OperatorValues.{boolean_value, comparison_value, comparison_type}
use Rattle.vortex_kernels.specs.Rows.{HasRows}
use Rattle.vortex_kernels.specs.Boolean.{AnswersBoolean, HasBooleanRows, are_bools}
use Rattle.vortex_kernels.specs.Comparison.{AnswersCompare, RefusesCompare, HasComparisonRows}
use Rattle.vortex_kernels.specs.Comparison.{is_settled, uneven, unlike}
use Rattle.vortex_kernels.proofs.Comparing.{constant_row}
use Rattle.vortex_arrays.specs.Dictionary.{DictView, decoded}

-- a row is the value of its code
pub coded_row : (rows : List Value) (codes : List ℕ) (i : ℕ) → i < length codes
    → row (map (row rows) codes) i ≡ row rows (slice_index codes i)
coded_row rows codes i lt = get_or-map (row rows) codes i 0 null lt

pub decoded_length : (d : DictView) → length (decoded d).rows ≡ length d.codes
decoded_length d = length-map d.codes (row d.values.rows)

constant_length : (s : ScalarView) (n : ℕ) → length (constant_column s n).rows ≡ n
constant_length s n = length-map-range_with_len (λ i. s.value) 0 n

pub beside_length : (s : ScalarView) (n : ℕ) (c : ColumnView) → c ≡ constant_column s n
    → n ≡ length c.rows
beside_length s n c e =
    sym (ap (λ (x : ColumnView). length x.rows) e ∙ constant_length s n)

constant_is : (s : ScalarView) (n : ℕ)
    → constant_column s n ≡ constant_column s (length (constant_column s n).rows)
constant_is s n = ap (constant_column s) (sym (constant_length s n))

-- a result for each value and a scalar is the result for each row
rows_of_values : (f : Value → Value → Value) (t : LogicalType) (d : DictView)
    (other told e : ColumnView) (s : ScalarView)
    → AreRowsOf d.values d.codes → other ≡ constant_column s (length other.rows)
    → length (decoded d).rows ≡ length other.rows
    → HasRows t (length d.values.rows)
    (λ i. f (row d.values.rows i) (row (constant_column s (length d.values.rows)).rows i)) told
    → IsTaken told d.codes e
    → HasRows t (length (decoded d).rows)
    (λ i. f (row (decoded d).rows i) (row other.rows i)) e
rows_of_values f t d other told e s below is same h taken = record {
  dtype = taken.dtype ∙ h.dtype;
  count =
      ap length taken.rows ∙ length-map d.codes (row told.rows) ∙ sym (decoded_length d);
  each = λ i lt.
      let n = length d.values.rows in
      let inside : i < length d.codes = omega (arith, decoded_length d, lt) in
      let k = slice_index d.codes i in
      let value : k < n = below i 0 inside in
      ap (λ rows. row rows i) taken.rows
      ∙ coded_row told.rows d.codes i inside
      ∙ h.each k value
      ∙ (λ j.
      f (sym (coded_row d.values.rows d.codes i inside) j)
      ((constant_row s (constant_column s n) (constant_is s n) k
      (omega (arith, constant_length s n, value))
      ∙ sym (constant_row s other is i (omega (arith, same, lt)))) j));
}

either_true : (a b : Bool) → b ≡ true → (a || b) ≡ true
either_true true b h = refl
either_true false b h = h

pub not_refused : (c d : ColumnView) (e : VortexError) → alike_types c.dtype d.dtype ≡ true
    → length c.rows ≡ length d.rows → RefusesCompare c d e → ⊥
not_refused c d e alike lengths (uneven h p) = absurd (h lengths)
not_refused c d e alike lengths (unlike same settled h p) = cc

-- a constant column is one
pub is_constant : (s : ScalarView) (c : ColumnView) → c ≡ constant_column s (length c.rows)
    → is_some c.constant ≡ true
is_constant s c e = ap (λ (x : ColumnView). is_some x.constant) e

pub both_true : (a b : Bool) → a ≡ true → b ≡ true → (a && b) ≡ true
both_true a b p q = λ i. p i && q i

pub boolean_of_values : (op : Operator) (d : DictView) (v other told e : ColumnView)
    (s : ScalarView) (codes : List ℕ)
    → v ≡ d.values → codes ≡ d.codes → AreRowsOf d.values d.codes
    → other ≡ constant_column s (length other.rows)
    → length (decoded d).rows ≡ length other.rows
    → is_boolean op ≡ true → are_bools (decoded d) other ≡ true
    → HasBooleanRows op v (constant_column s (length v.rows)) told → IsTaken told codes e
    → AnswersBoolean op (decoded d) other e
boolean_of_values op d v other told e s codes at under below is same boolean bools h taken =
    let t = bool_type (is_nullable d.values.dtype || is_nullable s.dtype) in
    let rows =
    rows_of_values (boolean_value op) t d other told e s below is same
    (subst (λ (x : ColumnView). HasBooleanRows op x (constant_column s (length x.rows)) told) at h)
    (subst (λ (xs : List ℕ). IsTaken told xs e) under taken) in
    record {
      operator = boolean;
      bools = bools;
      rows = record {
        dtype =
            rows.dtype
            ∙ ap (λ (x : ColumnView). bool_type (is_nullable d.values.dtype || is_nullable x.dtype))
            (sym is);
        count = rows.count;
        each = rows.each;
      };
    }

pub comparison_of_values : (op : CompareOperator) (d : DictView) (v other told e : ColumnView)
    (s : ScalarView) (codes : List ℕ)
    → v ≡ d.values → codes ≡ d.codes → AreRowsOf d.values d.codes
    → other ≡ constant_column s (length other.rows)
    → length (decoded d).rows ≡ length other.rows
    → alike_types (decoded d).dtype other.dtype ≡ true
    → HasComparisonRows op v (constant_column s (length v.rows)) told → IsTaken told codes e
    → AnswersCompare op (decoded d) other e
comparison_of_values op d v other told e s codes at under below is same alike h taken =
    let t = comparison_type d.values.dtype s.dtype in
    let rows =
    rows_of_values (comparison_value op) t d other told e s below is same
    (subst (λ (x : ColumnView). HasComparisonRows op x (constant_column s (length x.rows)) told) at
    h)
    (subst (λ (xs : List ℕ). IsTaken told xs e) under taken) in
    record {
      lengths = same;
      accepted =
          either_true (is_settled (decoded d) other) (alike_types (decoded d).dtype other.dtype)
          alike;
      rows = record {
        dtype =
            rows.dtype ∙ ap (λ (x : ColumnView). comparison_type d.values.dtype x.dtype) (sym is);
        count = rows.count;
        each = rows.each;
      };
    }
