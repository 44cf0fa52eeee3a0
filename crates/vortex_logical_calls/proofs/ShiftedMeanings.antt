-- Dates and timestamps that intervals move, and how long it is from one to another.
use Rattle.std.proofs.Common.{◌≡◌, ◌∙◌, ℤ, Bool, true, false, cond, refl, ap, sym}
use Rattle.std.specs.Prelude.{List, [], ◌∷◌, Option, Some, None, pos, int_rem, int_div, length}
use Rattle.std.specs.Prelude.{if◌then◌else◌}
use Rattle.std.specs.Ordering.{int_eq}
use Rattle.vortex_errors.specs.declared.error.NumericOperator.{NumericOperator}
use Rattle.vortex_errors.specs.declared.error.NumericOperator.TheVariants as numeric
use Rattle.vortex_types.specs.declared.dtype.PType.{PType}
use Rattle.vortex_types.specs.declared.dtype.PType.TheVariants.{I32, I64}
use Rattle.vortex_types.specs.ScalarView.{ScalarView}
use Rattle.vortex_types.specs.TypeEquality.{ptype_eq, ptype_refl}
use Rattle.vortex_columns.specs.ScalarOf.{int_scalar}
use Rattle.vortex_interface.specs.Meaning.{fits}
use Rattle.vortex_interface.specs.Shipped.{Binary}
use Rattle.vortex_interface.specs.Functions.{ours, function_arity}
use Rattle.vortex_interface.specs.Trees.{constant, call, trees_of}
use Rattle.vortex_interface.specs.ComparisonTrees.{operated}
use Rattle.vortex_logical.specs.declared.kind.Kind.TheVariants.{Date, Timestamp}
use Rattle.vortex_logical.specs.declared.operand.Operand.{Operand}
use Rattle.vortex_logical.specs.declared.operand.Operand.TheVariants.{Whole, Of}
use Rattle.vortex_lowering.specs.declared.refusal.Refusal.TheVariants.{NoCommonKind}
use Rattle.vortex_lowering.specs.Rows.{lowered, IsTyped}
use Rattle.vortex_lowering.specs.Results.{result_operand, are_computed}
use Rattle.vortex_lowering.specs.LoweredTrees.{arithmetic_operator, computed_tree}
use Rattle.vortex_lowering.specs.Computing.{Computes}
use Rattle.vortex_lowering.proofs.RowResults.{computes}
use Rattle.vortex_logical_calls.specs.Outcomes.{Outcome, made, refused, untyped, and_then}
use Rattle.vortex_logical_calls.specs.Calls.{Tree, Lowered, meaning, typed, call_on}
use Rattle.vortex_logical_calls.specs.Intervals.{moved, moved_by, shifted}
use Rattle.vortex_logical_calls.specs.RowLaws.{as_whole, is_sum, ShiftedRows, IntervalsMove}
use Rattle.vortex_logical_calls.specs.RowLaws.{InstantsElapse, is_quotient, SpansCompute}
use Rattle.vortex_logical_calls.specs.RowLaws.{InstantsMove}
use Rattle.vortex_logical_calls.specs.Spans.{spans_computed, instant}
use Rattle.vortex_logical_calls.specs.Computation.{of_operand}
use Rattle.vortex_logical_calls.specs.Conversions.{conversion_beside, converted}
use Rattle.vortex_logical_calls.proofs.RowMeanings.{made_is, after_is, typed_made}

-- the sum of an operand and a constant
abbrev moved_tree : NumericOperator → Tree → ScalarView → Tree
moved_tree o t s = operated (arithmetic_operator o) t (constant s)

call_made : (o : NumericOperator) (t v u : Tree)
    → call_on (ours (Binary (arithmetic_operator o))) (t ∷ v ∷ []) ≡ made u
    → u ≡ operated (arithmetic_operator o) t v
call_made o t v u e =
    by (fits (function_arity meaning (ours (Binary (arithmetic_operator o)))) 2) e
  where
    made_tree : Tree
    made_tree = operated (arithmetic_operator o) t v

    by : (b : Bool) → cond b (typed made_tree) untyped ≡ made u → u ≡ made_tree
    by true h = (typed_made made_tree u h).is
    by false h = absurd cc

-- what a moved operand is
record IsMoved (o : NumericOperator) (x : Lowered) (s : ScalarView) (w : Lowered) : Type 0 where
  kind : w.operand ≡ x.operand
  tree : w.tree ≡ moved_tree o x.tree s

moved_is : (o : NumericOperator) (x w : Lowered) (s : ScalarView) → moved o x (Some s) ≡ made w
    → IsMoved o x s w
moved_is o x w s e =
    let one = after_is (call_on (ours (Binary (arithmetic_operator o))) (x.tree ∷ constant s ∷ []))
    (λ t. made (lowered t x.operand)) w e in
    let same = made_is (lowered one.a x.operand) w one.then in
    record {
      kind = ap (λ y. y.operand) (sym same);
      tree = ap (λ y. y.tree) (sym same) ∙ call_made o x.tree (constant s) one.a one.first;
    }

same_wholes : (p : PType) → (if ptype_eq p p then Some (Whole p) else None) ≡ Some (Whole p)
same_wholes p = ap (λ b. if b then Some (Whole p) else None) (ptype_refl p)

whole_result : (o : NumericOperator) (p : PType) → is_sum o ≡ true
    → result_operand o (Whole p) (Whole p) ≡ Some (Whole p)
whole_result numeric.Add p h = same_wholes p
whole_result numeric.Sub p h = same_wholes p
whole_result numeric.Mul p h = cc
whole_result numeric.Div p h = cc

whole_tree : (o : NumericOperator) (p : PType) (t u : Tree) → is_sum o ≡ true
    → operated (arithmetic_operator o) t u ≡ computed_tree o (as_whole p t) (as_whole p u)
whole_tree numeric.Add p t u h = refl
whole_tree numeric.Sub p t u h = refl
whole_tree numeric.Mul p t u h = cc
whole_tree numeric.Div p t u h = cc

constant_typed : (p : PType) (n : ℤ) → IsTyped meaning (as_whole p (constant (int_scalar p n)))
constant_typed p n = (p, refl, (false, refl))

moved_rows : (o : NumericOperator) (x w : Lowered) (z n : ℤ) (p : PType) → is_sum o ≡ true
    → moved_by x.operand z ≡ Some (int_scalar p n) → shifted o x z ≡ made w → ShiftedRows o x z w
moved_rows o x w z n p h k e =
    let m = moved_is o x w (int_scalar p n) (ap (moved o x) (sym k) ∙ e) in
    let number = constant (int_scalar p n) in
    record {
      ptype = p;
      count = n;
      by = k;
      kind = m.kind;
      rows = λ t. computes meaning o (as_whole p x.tree) (as_whole p number) (as_whole p w.tree)
          (ptype_refl p) (whole_result o p h) t (constant_typed p n)
          (m.tree ∙ whole_tree o p x.tree number h);
    }

pub shifts : IntervalsMove
shifts o x w z h e = by x.operand refl
  where
    none : (a : Operand) → x.operand ≡ a → moved_by a z ≡ None → ShiftedRows o x z w
    none a k g =
        let no : refused (NoCommonKind x.operand (Whole I64)) ≡ made w =
        ap (moved o x) (sym (ap (λ b. moved_by b z) k ∙ g)) ∙ e in
        absurd cc

    days : (b : Bool) → int_eq (int_rem z (pos 86_400_000_000)) (pos 0) ≡ b → x.operand ≡ Of Date
        → ShiftedRows o x z w
    days true g k =
        moved_rows o x w z (int_div z (pos 86_400_000_000)) I32 h
        (ap (λ b. moved_by b z) k
        ∙ ap (λ b. if b then Some (int_scalar I32 (int_div z (pos 86_400_000_000))) else None) g) e
    days false g k =
        none (Of Date) k
        (ap (λ b. if b then Some (int_scalar I32 (int_div z (pos 86_400_000_000))) else None) g)

    by : (a : Operand) → x.operand ≡ a → ShiftedRows o x z w
    by (Of Timestamp) k = moved_rows o x w z z I64 h (ap (λ b. moved_by b z) k) e
    by (Of Date) k = days (int_eq (int_rem z (pos 86_400_000_000)) (pos 0)) refl k
    by a k = none a k refl

-- products, too, are of whole numbers
exact_result : (o : NumericOperator) (p : PType) → is_quotient o ≡ false
    → result_operand o (Whole p) (Whole p) ≡ Some (Whole p)
exact_result numeric.Add p h = same_wholes p
exact_result numeric.Sub p h = same_wholes p
exact_result numeric.Mul p h = same_wholes p
exact_result numeric.Div p h = cc

exact_tree : (o : NumericOperator) (p : PType) (t u : Tree) → is_quotient o ≡ false
    → operated (arithmetic_operator o) t u ≡ computed_tree o (as_whole p t) (as_whole p u)
exact_tree numeric.Add p t u h = refl
exact_tree numeric.Sub p t u h = refl
exact_tree numeric.Mul p t u h = refl
exact_tree numeric.Div p t u h = cc

-- lengths of time, and counts of them
pub spans : SpansCompute
spans o t u v h e = λ k g.
    computes meaning o (as_whole I64 t) (as_whole I64 u) (as_whole I64 v) (ptype_refl I64)
    (exact_result o I64 h) k g (call_made o t u v e ∙ exact_tree o I64 t u h)

sums_are_exact : (o : NumericOperator) → is_sum o ≡ true → is_quotient o ≡ false
sums_are_exact numeric.Add h = refl
sums_are_exact numeric.Sub h = refl
sums_are_exact numeric.Mul h = cc
sums_are_exact numeric.Div h = cc

-- an instant that such a length moves
pub instants : InstantsMove
instants o x w t h e =
    let from = after_is (instant x) (λ a. of_operand (Of Timestamp) (spans_computed o a.tree t)) w e in
    let one = after_is (spans_computed o from.a.tree t) (λ u. made (lowered u (Of Timestamp))) w
    from.then in
    let same = made_is (lowered one.a (Of Timestamp)) w one.then in
    let tree : one.a ≡ w.tree = ap (λ y. y.tree) same in
    record {
      a = from.a;
      value = from.first;
      kind = ap (λ y. y.operand) (sym same);
      rows = spans o from.a.tree t w.tree (sums_are_exact o h)
          (one.first ∙ ap (λ u. made u) tree);
    }

-- how long it is from one to another
pub elapses : InstantsElapse
elapses x y t e =
    let first = after_is (converted (conversion_beside x.operand y.operand) x) _ t e in
    let second = after_is (converted (conversion_beside y.operand x.operand) y) _ t first.then in
    let a = first.a in
    let b = second.a in
    record {
      a = a;
      b = b;
      left = first.first;
      right = second.first;
      rows = λ h g. computes meaning numeric.Sub (as_whole I64 a.tree) (as_whole I64 b.tree)
          (as_whole I64 t) (ptype_refl I64) (whole_result numeric.Sub I64 refl) h g
          (call_made numeric.Sub a.tree b.tree t second.then
          ∙ whole_tree numeric.Sub I64 a.tree b.tree refl);
    }
