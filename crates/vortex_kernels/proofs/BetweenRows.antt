-- Rows between two bounds, as Kleene's And of two comparisons.
use Rattle.std.proofs.Common.{◌≡◌, ◌∙◌, ◌<◌, Bool, true, false, List, length, refl, sym, ap, subst}
use Rattle.std.proofs.Common.{cond, arith, Result}
use Rattle.std.specs.Prelude.{◌||◌, not, slice_index_or}
use Rattle.vortex_types.specs.LogicalTypes.{bool_type, is_nullable}
use Rattle.vortex_types.specs.Values.{Value, null, truth, truth_of, truth_or_null, is_null}
use Rattle.vortex_types.specs.Order.{compare_values}
use Rattle.vortex_types.specs.OrderLaws.{compare_values_total}
use Rattle.vortex_columns.specs.ColumnView.{ColumnView, row}
use Rattle.vortex_columns.specs.ValidityView.{ValidityView}
use Rattle.vortex_errors.specs.declared.error.VortexError.{VortexError}
use Rattle.vortex_errors.specs.Answers.{Answers, AnswersUnlessMemory}
use Rattle.vortex_errors.proofs.Answering.{Answers-weaker, AnswersUnlessMemory-weaker}
use Rattle.vortex_operators.specs.declared.operators.CompareOperator.{CompareOperator}
use Rattle.vortex_operators.specs.declared.operators.Operator.TheVariants.{And}
use Rattle.vortex_operators.specs.declared.between.BetweenOptions.{BetweenOptions}
use Rattle.vortex_operators.specs.Between.{bound_operator}
use Rattle.vortex_operators.specs.Kleene.{kleene}
use Rattle.vortex_operators.specs.Operators.{compare_swap}
use Rattle.vortex_operators.specs.OperatorValues.{holds, comparison_value}
use Rattle.vortex_operators.specs.ComparisonLaws.{holds-swap}
use Rattle.vortex_kernels.specs.Comparison.{AreComparisons}
use Rattle.vortex_kernels.specs.Between.{AreCompared, HasBetweenRows}
use Rattle.vortex_kernels.specs.Kleene.{AnswersKleene, RefusesOperator}
use Rattle.vortex_kernels.specs.Truths.{present, truth_at}
use Rattle.vortex_columns.specs.ValidRows.{IsJointValidity}

-- the comparison of two values, as a bit and whether both are present
compared_at : (op : CompareOperator) (v w : Value) (b : Bool)
    → (is_null v ≡ false → is_null w ≡ false → b ≡ holds op (compare_values v w))
    → present (not (is_null v || is_null w)) b ≡ truth_of (comparison_value op v w)
compared_at op v w b h = by (is_null v) (is_null w) refl refl
  where
    by : (p q : Bool) → is_null v ≡ p → is_null w ≡ q
        → present (not (p || q)) b
        ≡ truth_of (cond (p || q) null (truth (holds op (compare_values v w))))
    by true q e g = refl
    by false true e g = refl
    by false false e g = ap (λ x. truth_of (truth x)) (h e g)

pub are_compared : (op : CompareOperator) (n : Bool) (l r : ColumnView) (bits : List Bool)
    (v : ValidityView) → AreComparisons op l.rows r.rows bits → IsJointValidity n l r v
    → AreCompared op l r bits v
are_compared op n l r bits v held valid = record {
  count = held.count;
  fits = valid.fits;
  each = λ i lt.
      ap (λ b. present b (slice_index_or bits i false)) (valid.each i lt)
      ∙ compared_at op (row l.rows i) (row r.rows i) (slice_index_or bits i false)
      (held.each i lt);
}

-- the sides swapped
pub turned : (op : CompareOperator) (v w : Value)
    → holds (compare_swap op) (compare_values w v) ≡ holds op (compare_values v w)
turned op v w =
    sym (ap (holds op) (compare_values_total.antisymm v w) ∙ holds-swap op (compare_values w v))

pub comparisons_turned : (op : CompareOperator) (ls rs : List Value) (bits : List Bool)
    → length ls ≡ length rs → AreComparisons (compare_swap op) rs ls bits
    → AreComparisons op ls rs bits
comparisons_turned op ls rs bits e held = record {
  count = held.count ∙ sym e;
  each = λ i lt p q. held.each i (omega (arith, e)) q p ∙ turned op (row ls i) (row rs i);
}

pub answers_turned : (op swapped : CompareOperator) (ls rs : List Value)
    (r : Result (List Bool) VortexError) → compare_swap op ≡ swapped → length ls ≡ length rs
    → AnswersUnlessMemory r (AreComparisons swapped rs ls)
    → AnswersUnlessMemory r (AreComparisons op ls rs)
answers_turned op swapped ls rs r is e h =
    AnswersUnlessMemory-weaker r (AreComparisons swapped rs ls) (AreComparisons op ls rs)
    (λ bits held.
    comparisons_turned op ls rs bits e
    (subst (λ (o : CompareOperator). AreComparisons o rs ls bits) (sym is) held))
    h

-- And of the two comparisons, each as bits
pub between_answers : (options : BetweenOptions) (x lower upper : ColumnView) (nullable : Bool)
    (above below : List Bool) (v w : ValidityView) (r : Result ColumnView VortexError)
    → length lower.rows ≡ length x.rows
    → nullable ≡ ((is_nullable x.dtype || is_nullable lower.dtype) || is_nullable upper.dtype)
    → AreCompared (bound_operator options.lower_strict) lower x above v
    → AreCompared (bound_operator options.upper_strict) x upper below w
    → Answers r (AnswersKleene And nullable (length above) (truth_at above v) (truth_at below w))
    (RefusesOperator And)
    → AnswersUnlessMemory r (HasBetweenRows options x lower upper)
between_answers options x lower upper nullable above below v w r same is left right =
    Answers-weaker r (AnswersKleene And nullable (length above) (truth_at above v)
    (truth_at below w))
    (HasBetweenRows options x lower upper) (RefusesOperator And) (λ e. ⊥)
    (λ c a. record {
      dtype = a.rows.dtype ∙ ap bool_type is;
      count = a.rows.count ∙ left.count ∙ same;
      each = λ i lt.
          let below_lower : i < length lower.rows = omega (arith, same) in
          let here : i < length above = omega (arith, same, left.count) in
          a.rows.each i here
          ∙ (λ j. truth_or_null (kleene And (left.each i below_lower j) (right.each i lt j)));
    })
    (λ e refused. absurd (no refused.0))
  where
    no : true ≡ false → ⊥
    no e = cc
