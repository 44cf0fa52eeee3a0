-- Rows compared with both of their bounds at once, and three scalars.
use Rattle.std.proofs.Common.{◌≡◌, ◌∙◌, ℕ, ◌<◌, Bool, true, false, List, length, Option, Some, None}
use Rattle.std.proofs.Common.{refl, sym, ap, subst, cond, arith, Result}
use Rattle.std.specs.Prelude.{◌&&◌, ◌||◌, not, is_some, IfSome, slice_index_or}
use Rattle.std.specs.declared.cmp.Ordering.{Ordering}
use Rattle.vortex_types.specs.LogicalTypes.{bool_type, is_nullable}
use Rattle.vortex_types.specs.Values.{Value, null, truth, truth_of, is_null}
use Rattle.vortex_types.specs.Typing.{HasType}
use Rattle.vortex_types.specs.Order.{compare_values}
use Rattle.vortex_types.specs.ScalarView.{ScalarView}
use Rattle.vortex_types.proofs.NullValues.{not_null}
use Rattle.vortex_columns.specs.ColumnView.{ColumnView, row, constant_column}
use Rattle.vortex_columns.specs.Stored.{bool_column}
use Rattle.vortex_columns.specs.ValidityView.{ValidityView, FitsRows}
use Rattle.vortex_errors.specs.declared.error.VortexError.{VortexError}
use Rattle.vortex_errors.specs.declared.error.VortexError.TheVariants.{InvalidColumn}
use Rattle.vortex_errors.specs.Answers.{AnswersUnlessMemory, AnswersWhere}
use Rattle.vortex_errors.proofs.Answering.{AnswersUnlessMemory-weaker}
use Rattle.vortex_bits.specs.Rows.{AreRows}
use Rattle.vortex_operators.specs.declared.between.BetweenOptions.{BetweenOptions}
use Rattle.vortex_operators.specs.declared.operators.CompareOperator.{CompareOperator}
use Rattle.vortex_operators.specs.declared.operators.Operator.TheVariants.{And}
use Rattle.vortex_operators.specs.Between.{bound_operator, between_value, between_type}
use Rattle.vortex_operators.specs.Kleene.{kleene}
use Rattle.vortex_operators.specs.Operators.{compare_swap}
use Rattle.vortex_operators.specs.OperatorValues.{holds, comparison_value, boolean_value}
use Rattle.vortex_kernels.specs.Between.{HasBetweenRows, AreBeside, AreBounded, HasNoNull}
use Rattle.vortex_kernels.specs.Between.{any_nullable, between_scalar}
use Rattle.vortex_kernels.specs.Comparison.{IsOrderAt}
use Rattle.vortex_kernels.specs.Rows.{HasRows}
use Rattle.vortex_columns.specs.ValidRows.{IsValidityIn}
use Rattle.vortex_kernels.proofs.BetweenRows.{turned}
use Rattle.vortex_kernels.proofs.Comparing.{constant_row, constant_has_rows}
use Rattle.vortex_kernels.proofs.KleeneBits.{both_some}
use Rattle.vortex_kernels.proofs.RowLemmas.{bool_answers}

-- the order of each row and its bound decides the comparison
pub beside_held : (test : ℕ → Bool) (op : CompareOperator) (order : ℕ → Ordering)
    (xs bounds : List Value) (n : ℕ) (bits : List Bool) → n ≡ length xs
    → ((i : ℕ) → i < length xs → IsOrderAt xs bounds i (order i))
    → AreRows n (λ i. test i && holds op (order i)) bits → AreBeside test op xs bounds bits
beside_held test op order xs bounds n bits e orders are = record {
  count = are.count ∙ e;
  each = λ i lt p q.
      are.each i (omega (arith, e)) ∙ ap (λ o. test i && holds op o) (orders i lt p q);
}

pub bounded_beside : (op other : CompareOperator) (order : ℕ → Ordering)
    (xs lower upper : List Value) (r : Result (Option (List Bool)) VortexError)
    → ((i : ℕ) → i < length xs → IsOrderAt xs lower i (order i))
    → AnswersUnlessMemory r (λ o. IfSome o (AreBeside (λ i. holds op (order i)) other xs upper))
    → AnswersUnlessMemory r (λ o. IfSome o (AreBounded op other xs lower upper))
bounded_beside op other order xs lower upper r orders =
    AnswersUnlessMemory-weaker r
    (λ o. IfSome o (AreBeside (λ i. holds op (order i)) other xs upper))
    (λ o. IfSome o (AreBounded op other xs lower upper)) by
  where
    by : (o : Option (List Bool))
        → IfSome o (AreBeside (λ i. holds op (order i)) other xs upper)
        → IfSome o (AreBounded op other xs lower upper)
    by None h = tt
    by (Some bits) h = record {
      count = h.count;
      each = λ i lt p l u.
          h.each i lt p u
          ∙ ap (λ o. holds op o && holds other (compare_values (row xs i) (row upper i)))
          (orders i lt p l);
    }

-- And of two truth values
both_truths : (a b : Bool) → boolean_value And (truth a) (truth b) ≡ truth (a && b)
both_truths true true = refl
both_truths true false = refl
both_truths false b = refl

-- a value and two bounds that are present
between_at : (options : BetweenOptions) (low x high : Value) (b : Bool)
    → is_null low ≡ false → is_null high ≡ false
    → (is_null x ≡ false → b
    ≡ (holds (compare_swap (bound_operator options.lower_strict)) (compare_values x low)
    && holds (bound_operator options.upper_strict) (compare_values x high)))
    → cond (not (is_null x)) (truth b) null ≡ between_value options low x high
between_at options low x high b f g told = by (is_null x) refl
  where
    by : (p : Bool) → is_null x ≡ p
        → cond (not p) (truth b) null ≡ between_value options low x high
    by true e =
        let op = bound_operator options.lower_strict in
        let other = bound_operator options.upper_strict in
        sym (λ i.
        boolean_value And (cond (f i || e i) null (truth (holds op (compare_values low x))))
        (cond (e i || g i) null (truth (holds other (compare_values x high)))))
    by false e =
        let op = bound_operator options.lower_strict in
        let other = bound_operator options.upper_strict in
        ap truth (told e)
        ∙ ap (λ a. truth (a && holds other (compare_values x high))) (turned op low x)
        ∙ sym (both_truths (holds op (compare_values low x)) (holds other (compare_values x high)))
        ∙ sym (λ i.
        boolean_value And (cond (f i || e i) null (truth (holds op (compare_values low x))))
        (cond (e i || g i) null (truth (holds other (compare_values x high)))))

-- the column of such bits, null where the array is
pub bounded_answers : (options : BetweenOptions) (x lower upper : ColumnView) (nullable : Bool)
    (bits : List Bool) (v : ValidityView) (r : Result ColumnView VortexError)
    → length x.rows ≡ length lower.rows → length x.rows ≡ length upper.rows
    → HasNoNull lower.rows → HasNoNull upper.rows
    → nullable ≡ any_nullable x.dtype lower.dtype upper.dtype
    → AreBounded (compare_swap (bound_operator options.lower_strict))
    (bound_operator options.upper_strict) x.rows lower.rows upper.rows bits
    → IsValidityIn nullable x v
    → AnswersWhere r (FitsRows v (length bits)) (λ c. c ≡ bool_column bits v) InvalidColumn
    → AnswersUnlessMemory r (HasBetweenRows options x lower upper)
bounded_answers options x lower upper nullable bits v r e g low high is told valid answered =
    subst
    (λ (b : Bool).
    AnswersUnlessMemory r
    (HasRows (bool_type b) (length x.rows)
    (λ i. between_value options (row lower.rows i) (row x.rows i) (row upper.rows i))))
    is
    (bool_answers nullable (length x.rows) (λ i. not (is_null (row x.rows i)))
    (λ i. between_value options (row lower.rows i) (row x.rows i) (row upper.rows i)) bits v r
    told.count valid
    (λ i lt.
    let l = low i (omega (arith, e)) in
    let h = high i (omega (arith, g)) in
    between_at options (row lower.rows i) (row x.rows i) (row upper.rows i)
    (slice_index_or bits i false) l h (λ p. told.each i lt p l h))
    answered)

-- three scalars: null only where one of them has null
compared_some : (op : CompareOperator) (v w : Value) → is_null v ≡ false → is_null w ≡ false
    → is_some (truth_of (comparison_value op v w)) ≡ true
compared_some op v w p q =
    λ i. is_some (truth_of (cond (p i || q i) null (truth (holds op (compare_values v w)))))

pub scalars_nullable : (op other : CompareOperator) (x lower upper : ScalarView)
    → HasType x.dtype x.value → HasType lower.dtype lower.value → HasType upper.dtype upper.value
    → kleene And (truth_of (comparison_value op lower.value x.value))
    (truth_of (comparison_value other x.value upper.value)) ≡ None
    → any_nullable x.dtype lower.dtype upper.dtype ≡ true
scalars_nullable op other x lower upper h k l none =
    by (is_nullable x.dtype) (is_nullable lower.dtype) (is_nullable upper.dtype) refl refl refl
  where
    by : (a b c : Bool) → is_nullable x.dtype ≡ a → is_nullable lower.dtype ≡ b
        → is_nullable upper.dtype ≡ c → ((a || b) || c) ≡ true
    by true b c p q r = refl
    by false true c p q r = refl
    by false false true p q r = refl
    by false false false p q r =
        let here = not_null x.dtype x.value h p in
        let above = compared_some op lower.value x.value (not_null lower.dtype lower.value k q)
        here in
        let below = compared_some other x.value upper.value here
        (not_null upper.dtype upper.value l r) in
        let some =
        both_some And (truth_of (comparison_value op lower.value x.value))
        (truth_of (comparison_value other x.value upper.value)) refl above below in
        let not_some = ap is_some none in
        cc

-- one scalar in each row
pub constants_between : (options : BetweenOptions) (x lower upper : ColumnView)
    (a b d s : ScalarView) (n : ℕ) (r : Result ColumnView VortexError)
    → length lower.rows ≡ length x.rows → length upper.rows ≡ length x.rows → n ≡ length x.rows
    → x ≡ constant_column a (length x.rows) → lower ≡ constant_column b (length lower.rows)
    → upper ≡ constant_column d (length upper.rows) → s ≡ between_scalar options a b d
    → AnswersUnlessMemory r (λ c. c ≡ constant_column s n)
    → AnswersUnlessMemory r (HasBetweenRows options x lower upper)
constants_between options x lower upper a b d s n r e g same is_x is_lower is_upper is =
    AnswersUnlessMemory-weaker r (λ c. c ≡ constant_column s n)
    (HasBetweenRows options x lower upper)
    (λ c made.
    let rows = constant_has_rows s n c made in
    record {
      dtype =
          rows.dtype
          ∙ ap (λ (t : ScalarView). t.dtype) is
          ∙ sym (λ i. between_type (is_x i).dtype (is_lower i).dtype (is_upper i).dtype);
      count = rows.count ∙ same;
      each = λ i lt.
          rows.each i (omega (arith, same))
          ∙ ap (λ (t : ScalarView). t.value) is
          ∙ sym (λ j.
          between_value options (constant_row b lower is_lower i (omega (arith, e)) j)
          (constant_row a x is_x i lt j) (constant_row d upper is_upper i (omega (arith, g)) j));
    })
