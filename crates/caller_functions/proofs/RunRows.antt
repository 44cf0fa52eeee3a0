-- The rows of runs, and what a kernel says of the value of each run.
use Rattle.std.proofs.Common.{◌≡◌, ℕ, ◌<◌, Bool, true, false, List, length, refl, sym, ap}
use Rattle.std.proofs.Common.{subst, ◌∙◌, arith, cond}
use Rattle.std.specs.Prelude.{not, nat_le, Result}
use Rattle.std.proofs.lemmas.List.{ext_get_or}
use Rattle.std.proofs.lemmas.List.FromFn.{get_or-map-range_with_len, length-map-range_with_len}
use Rattle.std.proofs.lemmas.List.Sums.{count_by-le-length}
use Rattle.vortex_errors.specs.declared.error.VortexError.{VortexError}
use Rattle.vortex_errors.specs.declared.error.VortexError.TheVariants.{InvalidColumn}
use Rattle.vortex_errors.specs.Answers.{AnswersUnlessMemory, AnswersWhere}
use Rattle.vortex_bits.specs.Rows.{AreRows}
use Rattle.vortex_types.specs.LogicalTypes.{LogicalType, bool_type, is_bool_type}
use Rattle.vortex_types.specs.LogicalTypes.{is_nullable}
use Rattle.vortex_types.specs.ScalarView.{ScalarView}
use Rattle.vortex_types.specs.Typing.{HasType}
use Rattle.vortex_types.specs.Values.{Value, null, truth, number, text, bytes, list, is_null}
use Rattle.vortex_types.proofs.NullValues.{not_null}
use Rattle.vortex_columns.specs.ColumnView.{ColumnView, row, constant_column, AreTyped}
use Rattle.vortex_columns.specs.Stored.{bool_column}
use Rattle.vortex_columns.specs.ValidityView.{ValidityView, FitsRows}
use Rattle.std.proofs.lemmas.List.Elements.{All-get_or}
use Rattle.vortex_kernels.specs.Rows.{HasRows}
use Rattle.vortex_kernels.specs.Comparison.{AnswersCompare, RefusesCompare, HasComparisonRows}
use Rattle.vortex_kernels.specs.Comparison.{uneven, unlike}
use Rattle.vortex_operators.specs.declared.operators.CompareOperator.{CompareOperator}
use Rattle.vortex_types.specs.TypeEquality.{alike_types}
use Rattle.vortex_kernels.proofs.Comparing.{constant_row}
use Rattle.vortex_kernels.proofs.RowLemmas.{bool_answers, bool_dtype}
use Rattle.vortex_arrays.specs.Encoded.{IsDecoded}
use Rattle.caller_functions.specs.RunLength.{run_at, run_column, HasRunRows, IsRunValidity}
use Rattle.caller_functions.specs.RunLength.{is_true}
use Rattle.std.specs.Prelude.{◌||◌}
use Rattle.vortex_kernels.specs.Comparison.{is_settled}
use Rattle.vortex_kernels.specs.Boolean.{AnswersBoolean, HasBooleanRows, are_bools}
use Rattle.vortex_operators.specs.Operators.{is_boolean}
use Rattle.vortex_operators.specs.OperatorValues.{boolean_value, comparison_value, comparison_type}
use Rattle.vortex_operators.specs.declared.operators.Operator.{Operator}

pub run_within : (starts : List ℕ) (i n : ℕ) → length starts < n → run_at starts i < n
run_within starts i n h =
    omega (arith, count_by-le-length (λ start. nat_le start i) starts)

-- each row of a column of Bool is null or its truth value
truth_row : (t : LogicalType) (v : Value) → is_bool_type t ≡ true → HasType t v
    → cond (not (is_null v)) (truth (is_true v)) null ≡ v
truth_row (bool_type n) null b h = refl
truth_row (bool_type n) (truth x) b h = refl
truth_row (bool_type n) (number z) b h = absurd h
truth_row (bool_type n) (text bs) b h = absurd h
truth_row (bool_type n) (bytes bs) b h = absurd h
truth_row (bool_type n) (list vs) b h = absurd h
truth_row t v b h = cc

typed_row : (c : ColumnView) (i : ℕ) → AreTyped c.dtype c.rows → i < length c.rows
    → HasType c.dtype (row c.rows i)
typed_row c i typed lt = All-get_or (HasType c.dtype) c.rows i null lt typed

pub plain_valid : (c : ColumnView) (i : ℕ) → AreTyped c.dtype c.rows → is_nullable c.dtype ≡ false
    → i < length c.rows → true ≡ not (is_null (row c.rows i))
plain_valid c i typed plain lt =
    sym (ap not (not_null c.dtype (row c.rows i) (typed_row c i typed lt) plain))

pub bool_run_rows : (c : ColumnView) (starts : List ℕ) (n : ℕ) (bits : List Bool)
    (v : ValidityView) (r : Result ColumnView VortexError)
    → is_bool_type c.dtype ≡ true → length starts < length c.rows → AreTyped c.dtype c.rows
    → IsRunValidity c starts n v → AreRows n (λ i. is_true (row c.rows (run_at starts i))) bits
    → AnswersWhere r (FitsRows v (length bits)) (λ d. d ≡ bool_column bits v) InvalidColumn
    → AnswersUnlessMemory r (HasRunRows c starts n)
bool_run_rows c starts n bits v r bool within typed valid are answered =
    subst
    (λ (t : LogicalType).
    AnswersUnlessMemory r (HasRows t n (λ i. row c.rows (run_at starts i))))
    (sym (bool_dtype c.dtype bool))
    (bool_answers (is_nullable c.dtype) n (λ i. not (is_null (row c.rows (run_at starts i))))
    (λ i. row c.rows (run_at starts i)) bits v r are.count valid
    (λ i lt.
    ap (λ b. cond (not (is_null (row c.rows (run_at starts i)))) (truth b) null) (are.each i lt)
    ∙ truth_row c.dtype (row c.rows (run_at starts i)) bool
    (typed_row c (run_at starts i) typed (run_within starts i (length c.rows) within)))
    answered)

-- the rows of the column that runs stand for
pub run_count : (c : ColumnView) (starts : List ℕ) (n : ℕ)
    → length (run_column c starts n).rows ≡ n
run_count c starts n = length-map-range_with_len (λ i. row c.rows (run_at starts i)) 0 n

run_row : (c : ColumnView) (starts : List ℕ) (n i : ℕ) → i < n
    → row (run_column c starts n).rows i ≡ row c.rows (run_at starts i)
run_row c starts n i lt =
    get_or-map-range_with_len (λ k. row c.rows (run_at starts k)) 0 n i i null lt (omega arith)

pub runs_decoded : (c : ColumnView) (starts : List ℕ) (n : ℕ) (d : ColumnView)
    → HasRunRows c starts n d → IsDecoded (run_column c starts n) d
runs_decoded c starts n d h = record {
  dtype = h.dtype;
  rows =
      ext_get_or null d.rows (run_column c starts n).rows (h.count ∙ sym (run_count c starts n))
      (λ i lt.
      let below : i < n = omega (arith, h.count, lt) in
      h.each i below ∙ sym (run_row c starts n i below));
}

-- what is said of the value of each run beside a scalar is said of each row
pub rows_of_runs : (f : Value → Value → Value) (t : LogicalType) (c other runs d : ColumnView)
    (s : ScalarView) (starts : List ℕ) (n : ℕ)
    → length starts < length c.rows → other ≡ constant_column s (length other.rows)
    → n ≡ length other.rows
    → HasRows t (length c.rows)
    (λ i. f (row c.rows i) (row (constant_column s (length c.rows)).rows i)) runs
    → HasRunRows runs starts n d
    → HasRows t (length (run_column c starts n).rows)
    (λ i. f (row (run_column c starts n).rows i) (row other.rows i)) d
rows_of_runs f t c other runs d s starts n within is same told h = record {
  dtype = h.dtype ∙ told.dtype;
  count = h.count ∙ sym (run_count c starts n);
  each = λ i lt.
      let below : i < n = omega (arith, run_count c starts n, lt) in
      let run = run_within starts i (length c.rows) within in
      h.each i below
      ∙ told.each (run_at starts i) run
      ∙ (λ j.
      f (sym (run_row c starts n i below) j)
      ((constant_row s (constant_column s (length c.rows)) (refl_of s (length c.rows))
      (run_at starts i) (omega (arith, length_of s (length c.rows), run))
      ∙ sym (constant_row s other is i (omega (arith, same, below)))) j));
}
  where
    length_of : (s : ScalarView) (m : ℕ) → length (constant_column s m).rows ≡ m
    length_of s m = length-map-range_with_len (λ i. s.value) 0 m

    refl_of : (s : ScalarView) (m : ℕ)
        → constant_column s m ≡ constant_column s (length (constant_column s m).rows)
    refl_of s m = ap (constant_column s) (sym (length_of s m))

either_true : (a b : Bool) → b ≡ true → (a || b) ≡ true
either_true true b h = refl
either_true false b h = h

pub constant_length : (s : ScalarView) (m : ℕ) (d : ColumnView) → d ≡ constant_column s m
    → m ≡ length d.rows
constant_length s m d e =
    sym (ap (λ (x : ColumnView). length x.rows) e ∙ length-map-range_with_len (λ i. s.value) 0 m)

pub not_refused : (c d : ColumnView) (e : VortexError) → alike_types c.dtype d.dtype ≡ true
    → length c.rows ≡ length d.rows → RefusesCompare c d e → ⊥
not_refused c d e alike lengths (uneven h p) = absurd (h lengths)
not_refused c d e alike lengths (unlike same settled h p) = cc

pub boolean_of_runs : (op : Operator) (c v other runs r d : ColumnView) (s : ScalarView)
    (starts : List ℕ) (n : ℕ)
    → v ≡ c → r ≡ runs → length starts < length c.rows
    → other ≡ constant_column s (length other.rows)
    → length (run_column c starts n).rows ≡ length other.rows → is_boolean op ≡ true
    → are_bools (run_column c starts n) other ≡ true
    → HasBooleanRows op v (constant_column s (length v.rows)) runs → HasRunRows r starts n d
    → AnswersBoolean op (run_column c starts n) other d
boolean_of_runs op c v other runs r d s starts n at from within is lengths boolean bools told h =
    let rows =
    rows_of_runs (boolean_value op) (bool_type (is_nullable c.dtype || is_nullable s.dtype)) c
    other runs d s starts n within is (sym (run_count c starts n) ∙ lengths)
    (subst (λ (x : ColumnView). HasBooleanRows op x (constant_column s (length x.rows)) runs) at
    told)
    (subst (λ (x : ColumnView). HasRunRows x starts n d) from h) in
    record {
      operator = boolean;
      bools = bools;
      rows = record {
        dtype =
            rows.dtype
            ∙ ap (λ (x : ColumnView). bool_type (is_nullable c.dtype || is_nullable x.dtype))
            (sym is);
        count = rows.count;
        each = rows.each;
      };
    }

pub comparison_of_runs : (op : CompareOperator) (c v other runs r d : ColumnView) (s : ScalarView)
    (starts : List ℕ) (n : ℕ)
    → v ≡ c → r ≡ runs → length starts < length c.rows
    → other ≡ constant_column s (length other.rows)
    → length (run_column c starts n).rows ≡ length other.rows
    → alike_types c.dtype other.dtype ≡ true
    → HasComparisonRows op v (constant_column s (length v.rows)) runs → HasRunRows r starts n d
    → AnswersCompare op (run_column c starts n) other d
comparison_of_runs op c v other runs r d s starts n at from within is lengths alike told h =
    let rows =
    rows_of_runs (comparison_value op) (comparison_type c.dtype s.dtype) c other runs d s starts
    n within is (sym (run_count c starts n) ∙ lengths)
    (subst (λ (x : ColumnView). HasComparisonRows op x (constant_column s (length x.rows)) runs)
    at told)
    (subst (λ (x : ColumnView). HasRunRows x starts n d) from h) in
    record {
      lengths = lengths;
      accepted = either_true (is_settled (run_column c starts n) other)
          (alike_types c.dtype other.dtype) alike;
      rows = record {
        dtype = rows.dtype ∙ ap (λ (x : ColumnView). comparison_type c.dtype x.dtype) (sym is);
        count = rows.count;
        each = rows.each;
      };
    }
