-- Operands between bounds that have no null.
use Rattle.std.proofs.Common.{◌≡◌, ℕ, ◌<◌, Bool, true, false, List, length, Option, refl, ap, ◌∙◌}
use Rattle.std.proofs.Common.{arith}
use Rattle.std.specs.Prelude.{not, ◌||◌, ◌&&◌, Result, IfSome}
use Rattle.std.specs.Result.{result_ok}
use Rattle.std.specs.declared.cmp.Ordering.{Ordering}
use Rattle.vortex_errors.specs.declared.error.VortexError.{VortexError}
use Rattle.vortex_errors.specs.Answers.{AnswersUnlessMemory}
use Rattle.vortex_types.specs.Values.{Value, is_null}
use Rattle.vortex_columns.specs.ColumnView.{ColumnView, row}
use Rattle.vortex_columns.specs.ValidityView.{ValidityView}
use Rattle.vortex_columns.specs.ValidRows.{IsJointValidity, IsValidityIn}
use Rattle.vortex_bits.specs.Rows.{AreRows}
use Rattle.vortex_operators.specs.declared.operators.CompareOperator.{CompareOperator}
use Rattle.vortex_operators.specs.OperatorValues.{holds}
use Rattle.vortex_kernels.specs.Between.{HasNoNull, AreBeside, AreBounded}
use Rattle.vortex_kernels.specs.Comparison.{IsOrderAt}
use Rattle.vortex_kernels.proofs.BoundedRows.{beside_held}
use Rattle.yurkije_lent.proofs.Optional.{some_answers, some_weaker}

or_false : (a b : Bool) → b ≡ false → (a || b) ≡ a
or_false true b e = refl
or_false false b e = e

-- each row and its bound, compared in order
pub beside_rows : (test : ℕ → Bool) (op : CompareOperator) (order : ℕ → Ordering)
    (xs bounds : List Value) (r : Result (List Bool) VortexError) (o : Option (List Bool))
    → o ≡ result_ok r → ((i : ℕ) → i < length xs → IsOrderAt xs bounds i (order i))
    → AnswersUnlessMemory r (AreRows (length xs) (λ i. test i && holds op (order i)))
    → IfSome o (AreBeside test op xs bounds)
beside_rows test op order xs bounds r o e orders h =
    some_weaker o (AreRows (length xs) (λ i. test i && holds op (order i)))
    (AreBeside test op xs bounds)
    (λ bits are. beside_held test op order xs bounds (length xs) bits refl orders are)
    (some_answers r (AreRows (length xs) (λ i. test i && holds op (order i))) (λ f. ⊥) o e h)

-- each row and both of its bounds, compared in order
pub bounded_rows : (op other : CompareOperator) (above below : ℕ → Ordering)
    (xs lower upper : List Value) (r : Result (List Bool) VortexError) (o : Option (List Bool))
    → o ≡ result_ok r → ((i : ℕ) → i < length xs → IsOrderAt xs lower i (above i))
    → ((i : ℕ) → i < length xs → IsOrderAt xs upper i (below i))
    → AnswersUnlessMemory r
    (AreRows (length xs) (λ i. holds op (above i) && holds other (below i)))
    → IfSome o (AreBounded op other xs lower upper)
bounded_rows op other above below xs lower upper r o e over under h =
    some_weaker o (AreRows (length xs) (λ i. holds op (above i) && holds other (below i)))
    (AreBounded op other xs lower upper)
    (λ bits are. record {
      count = are.count;
      each = λ i lt p l u.
          are.each i lt ∙ (λ j. holds op (over i lt p l j) && holds other (under i lt p u j));
    })
    (some_answers r (AreRows (length xs) (λ i. holds op (above i) && holds other (below i)))
    (λ f. ⊥) o e h)

-- beside rows that are not null, a type that is nullable or not
pub valid_beside : (n m : Bool) (x b : ColumnView) (v : ValidityView) → n ≡ m
    → length x.rows ≡ length b.rows → HasNoNull b.rows → IsJointValidity n x b v
    → IsValidityIn m x v
valid_beside n m x b v same lengths full h = record {
  nullability = h.nullability ∙ same;
  fits = h.fits;
  each = λ i lt.
      h.each i lt
      ∙ ap not
      (or_false (is_null (row x.rows i)) (is_null (row b.rows i))
      (full i (omega (arith, lt, lengths))));
}

-- whether one of three types is nullable, where the last is
pub with_last : (x l u : Bool) → u ≡ true → (x || u) ≡ ((x || l) || u)
with_last true l u e = refl
with_last false true u e = e
with_last false false u e = refl
