-- Comparisons decided without the rows, and with their sides swapped.
use Rattle.std.proofs.Common.{◌≡◌, ℕ, zero, suc, ◌≤◌, Bool, true, false, Option, Some, None}
use Rattle.std.proofs.Common.{length, refl, sym, ap, subst, ◌∙◌, arith}
use Rattle.std.specs.Prelude.{◌||◌, ◌&&◌, nat_eq, Result, MatchOption, if◌then◌else◌}
use Rattle.vortex_errors.specs.declared.error.VortexError.{VortexError}
use Rattle.vortex_errors.specs.Answers.{AnswersUnlessMemory}
use Rattle.vortex_types.specs.LogicalTypes.{LogicalType, bool_type, is_nullable}
use Rattle.vortex_types.specs.LogicalTypes.{without_nullability}
use Rattle.vortex_types.specs.TypeEquality.{alike_types, type_eq-decides}
use Rattle.vortex_types.specs.Values.{Value, null, truth, is_null}
use Rattle.vortex_types.specs.Order.{compare_values}
use Rattle.vortex_columns.specs.ColumnView.{ColumnView, row, constant_column}
use Rattle.vortex_types.specs.ScalarView.{ScalarView}
use Rattle.vortex_kernels.proofs.Comparing.{constant_has_rows}
use Rattle.vortex_operators.specs.ComparisonLaws.{are_swapped}
use Rattle.vortex_operators.specs.OperatorValues.{holds, comparison_value, comparison_type}
use Rattle.vortex_operators.specs.Operators.{compare_operator_of, compare_swap}
use Rattle.vortex_operators.specs.declared.operators.CompareOperator.{CompareOperator}
use Rattle.vortex_operators.specs.declared.operators.Operator.{Operator}
use Rattle.vortex_kernels.specs.Comparison.{AnswersCompare, HasComparisonRows, IsConstantOf}
use Rattle.vortex_kernels.specs.Comparison.{is_settled, is_null_constant}
use Rattle.vortex_arrays.specs.Encoded.{GivesWhere, InOrder, asked, is_settled_beside}
use Rattle.vortex_arrays.specs.Encoded.{are_accepted, compare_answers, comparison_answers}
use Rattle.vortex_arrays.specs.Encoded.{AnswersComparison}
use Rattle.vortex_arrays.proofs.Answering.{told_rows, is_below, either_side, gives_answers}

-- with null in each row
null_beside : (b : Bool) (v : Value) → null ≡ (if b || true then null else v)
null_beside true v = refl
null_beside false v = refl

null_row : (op : CompareOperator) (v w : Value) → w ≡ null → null ≡ comparison_value op v w
null_row op v w e =
    null_beside (is_null v) (truth (holds op (compare_values v null)))
    ∙ ap (comparison_value op v) (sym e)

-- one null in each row, and nulls
pub nulls_compared : (n : Bool) (c other : ColumnView) (s : ScalarView) (m : ℕ) (d : ColumnView)
    → s ≡ record { dtype = bool_type n; value = null }
    → n ≡ (is_nullable c.dtype || is_nullable other.dtype) → m ≡ length other.rows
    → length c.rows ≡ length other.rows → IsConstantOf null other → d ≡ constant_column s m
    → (op : CompareOperator) → HasComparisonRows op c other d
nulls_compared n c other s m d is joined count lengths nulls e op =
    told_rows s.dtype (comparison_type c.dtype other.dtype) m (length c.rows) (λ i. s.value)
    (λ i. comparison_value op (row c.rows i) (row other.rows i)) d
    (ap (λ (t : ScalarView). t.dtype) is ∙ ap bool_type joined) (count ∙ sym lengths)
    (λ i lt.
    ap (λ (t : ScalarView). t.value) is
    ∙ null_row op (row c.rows i) (row other.rows i) (nulls i (omega (arith, lengths))))
    (constant_has_rows s m d e)

alike_sym : (t u : LogicalType) → alike_types t u ≡ true → alike_types u t ≡ true
alike_sym t u h =
    (type_eq-decides (without_nullability u) (without_nullability t)).1
    (sym ((type_eq-decides (without_nullability t) (without_nullability u)).0 h))

alike_either : (t u : LogicalType) → alike_types t u ≡ alike_types u t
alike_either t u = by (alike_types t u) (alike_types u t) (alike_sym t u) (alike_sym u t)
  where
    by : (a b : Bool) → (a ≡ true → b ≡ true) → (b ≡ true → a ≡ true) → a ≡ b
    by true b f g = sym (f refl)
    by false true f g = g refl
    by false false f g = refl

rows_in_order : (k : ℕ) (op : CompareOperator) (c other d : ColumnView)
    → length c.rows ≡ length other.rows → HasComparisonRows (asked k op) c other d
    → InOrder k (HasComparisonRows op) c other d
rows_in_order zero op c other d lengths h = h
rows_in_order (suc k) op c other d lengths h =
    told_rows (comparison_type c.dtype other.dtype) (comparison_type other.dtype c.dtype)
    (length c.rows) (length other.rows)
    (λ i. comparison_value (compare_swap op) (row c.rows i) (row other.rows i))
    (λ i. comparison_value op (row other.rows i) (row c.rows i)) d
    (ap bool_type (either_side (is_nullable c.dtype) (is_nullable other.dtype))) lengths
    (λ i lt. sym (are_swapped op (row other.rows i) (row c.rows i))) h

accepted_or : (z n m a : Bool) → ((z || n) || a) ≡ true → ((z || (m || n)) || a) ≡ true
accepted_or true n m a h = refl
accepted_or false true true a h = refl
accepted_or false true false a h = refl
accepted_or false false true a h = refl
accepted_or false false false a h = h

accepts : (c other : ColumnView) → length c.rows ≡ length other.rows
    → are_accepted c other ≡ true → (is_settled c other || alike_types c.dtype other.dtype) ≡ true
accepts c other lengths h =
    ap
    (λ n. (nat_eq n 0 || (is_null_constant c || is_null_constant other))
    || alike_types c.dtype other.dtype)
    lengths
    ∙ accepted_or (nat_eq (length other.rows) 0) (is_null_constant other) (is_null_constant c)
    (alike_types c.dtype other.dtype) h

accepts_turned : (c other : ColumnView) → length c.rows ≡ length other.rows
    → are_accepted c other ≡ true → (is_settled other c || alike_types other.dtype c.dtype) ≡ true
accepts_turned c other lengths h =
    (λ i.
    (nat_eq (length other.rows) 0
    || either_side (is_null_constant other) (is_null_constant c) i)
    || alike_either other.dtype c.dtype i)
    ∙ accepted_or (nat_eq (length other.rows) 0) (is_null_constant other) (is_null_constant c)
    (alike_types c.dtype other.dtype) h

-- the comparison's result, from that of the kernel's comparison
pub compared_in_order : (k : ℕ) (op : CompareOperator) (c other d : ColumnView)
    → length c.rows ≡ length other.rows → are_accepted c other ≡ true
    → HasComparisonRows (asked k op) c other d → InOrder k (AnswersCompare op) c other d
compared_in_order zero op c other d lengths h rows =
    record { lengths = lengths; accepted = accepts c other lengths h; rows = rows }
compared_in_order (suc k) op c other d lengths h rows =
    record {
      lengths = sym lengths;
      accepted = accepts_turned c other lengths h;
      rows = rows_in_order (suc k) op c other d lengths rows;
    }

settled_says : (kernel : ColumnView → CompareOperator → Bool) (m : Option CompareOperator)
    (op : CompareOperator) (k : ℕ) (c other d : ColumnView)
    → m ≡ Some op → k ≤ 1 → is_settled_beside other ≡ true → length c.rows ≡ length other.rows
    → are_accepted c other ≡ true → ((o : CompareOperator) → HasComparisonRows o c other d)
    → (comparison_answers kernel m other k ≡ true)
    × MatchOption m ⊥ (λ o. InOrder k (AnswersCompare o) c other d)
settled_says kernel None op k c other d e at settled lengths h rows = cc
settled_says kernel (Some o) op k c other d e at settled lengths h rows = (
  λ i. is_below k at i && (settled i || kernel other (asked k o)),
  compared_in_order k o c other d lengths h (rows (asked k o)),
)

-- what is decided is the adaptor's result
pub settled_answers : (kernel : ColumnView → CompareOperator → Bool) (op : Operator)
    (o : CompareOperator) (k : ℕ) (c other d : ColumnView)
    → compare_operator_of op ≡ Some o → k ≤ 1 → is_settled_beside other ≡ true
    → length c.rows ≡ length other.rows → are_accepted c other ≡ true
    → ((o : CompareOperator) → HasComparisonRows o c other d)
    → (compare_answers kernel op other k ≡ true) × AnswersComparison op k c other d
settled_answers kernel op = settled_says kernel (compare_operator_of op)

-- the kernel's result is the adaptor's result
pub asked_answers : (kernel : ColumnView → CompareOperator → Bool) (op : Operator)
    (o : CompareOperator) (k : ℕ) (c other : ColumnView)
    (r : Result (Option ColumnView) VortexError)
    → compare_operator_of op ≡ Some o → k ≤ 1 → is_settled_beside other ≡ false
    → length c.rows ≡ length other.rows → are_accepted c other ≡ true
    → AnswersUnlessMemory r (GivesWhere (kernel other (asked k o))
    (AnswersCompare (asked k o) c other))
    → AnswersUnlessMemory r
    (GivesWhere (compare_answers kernel op other k) (AnswersComparison op k c other))
asked_answers kernel op o k c other r e at settled lengths h =
    gives_answers (kernel other (asked k o)) (compare_answers kernel op other k)
    (AnswersCompare (asked k o) c other) (AnswersComparison op k c other) r says
    (λ d p. answer (compare_operator_of op) e d (compared_in_order k o c other d lengths h p.rows))
  where
    says : kernel other (asked k o) ≡ compare_answers kernel op other k
    says =
        sym
        ((λ i. comparison_answers kernel (e i) other k)
        ∙ (λ i. is_below k at i && (settled i || kernel other (asked k o))))

    answer : (m : Option CompareOperator) → m ≡ Some o → (d : ColumnView)
        → InOrder k (AnswersCompare o) c other d
        → MatchOption m ⊥ (λ o. InOrder k (AnswersCompare o) c other d)
    answer None e d p = cc
    answer (Some a) e d p =
        let same : a ≡ o = cc in subst (λ b. InOrder k (AnswersCompare b) c other d) (sym same) p

pub settled_by_null : (other : ColumnView) → is_null_constant other ≡ true
    → is_settled_beside other ≡ true
settled_by_null other h =
    ap (λ b. nat_eq (length other.rows) 0 || b) h ∙ either_side (nat_eq (length other.rows) 0) true
