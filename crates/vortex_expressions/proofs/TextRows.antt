-- The rows of comparisons, bounds and arithmetic in texts over columns with kinds.
use Rattle.std.proofs.Common.{◌≡◌, ◌||◌, ℕ, Bool, true, false, cond, List, [], ◌∷◌, ap, sym, ◌∙◌, refl}
use Rattle.std.specs.Prelude.{Option, Some, None, reverse, codes, option_and_then}
use Rattle.vortex_types.specs.LogicalTypes.{Fields}
use Rattle.vortex_errors.specs.declared.error.NumericOperator.{NumericOperator}
use Rattle.vortex_errors.specs.declared.error.NumericOperator.TheVariants as numeric
use Rattle.vortex_operators.specs.declared.operators.CompareOperator.{CompareOperator}
use Rattle.vortex_syntax.specs.declared.step.WrittenOperator.{WrittenOperator}
use Rattle.vortex_syntax.specs.declared.step.WrittenOperator.TheVariants as written
use Rattle.vortex_syntax.specs.Syntax.{Syntax, between}
use Rattle.vortex_syntax.specs.Postfix.{has_operand}
use Rattle.vortex_syntax.specs.Keywords.{same_word}
use Rattle.vortex_logical.specs.declared.kind.Kind.{Kind}
use Rattle.vortex_logical.specs.declared.kind.Kind.TheVariants.{Plain}
use Rattle.vortex_logical_calls.specs.Comparison.{compared}
use Rattle.vortex_logical_calls.specs.Computation.{computed}
use Rattle.vortex_logical_calls.specs.Bounds as bounds
use Rattle.vortex_logical_calls.specs.RowLaws.{ComparisonsGoByOrder, BoundsGoByOrder}
use Rattle.vortex_logical_calls.specs.RowLaws.{ComputationsAreExact, ValuesAreAligned, KindsMeet}
use Rattle.vortex_logical_calls.specs.RowLaws.{IntervalsMove, InstantsElapse, is_sum, is_quotient}
use Rattle.vortex_logical_calls.specs.RowLaws.{SpansCompute, InstantsMove}
use Rattle.vortex_logical_calls.specs.Intervals.{shifted, elapses, elapsed}
use Rattle.vortex_logical_calls.specs.Spans.{counted, spans_computed, moved_instant}
use Rattle.vortex_logical_calls.specs.Outcomes as calls
use Rattle.vortex_logical_calls.specs.Calls.{Lowered}
use Rattle.vortex_logical.specs.declared.operand.Operand.{Operand}
use Rattle.vortex_logical.specs.declared.operand.Operand.TheVariants.{Whole, Of}
use Rattle.vortex_logical_calls.specs.declared.intervals.Interval.TheVariants.{Micros}
use Rattle.vortex_standard.specs.declared.standard.Standard.{Standard}
use Rattle.vortex_standard.specs.declared.standard.Standard.TheVariants as standard
use Rattle.vortex_standard.specs.Names.{standard_named}
use Rattle.vortex_expressions.specs.declared.kind_words.KindName.{KindName}
use Rattle.vortex_expressions.specs.declared.refusal.Refusal.TheVariants.{NoFunction}
use Rattle.vortex_expressions.specs.Outcomes.{Outcome, answers, refuses, and_then, or_refuses}
use Rattle.vortex_expressions.specs.Items.{Item, bound, kinded, fraction, interval, Tree, as_item}
use Rattle.vortex_expressions.specs.Items.{settled, text_of}
use Rattle.vortex_expressions.specs.Kinded.{is_kinded, is_interval, is_plain, first_kind}
use Rattle.vortex_expressions.specs.Kinded.{item_operand, told}
use Rattle.vortex_expressions.specs.declared.item.Timespan.{Timespan}
use Rattle.vortex_expressions.specs.declared.item.Timespan.TheVariants.{Given, Elapsed}
use Rattle.vortex_expressions.specs.declared.kind_operators.KindedOperator.{KindedOperator}
use Rattle.vortex_expressions.specs.declared.kind_operators.KindedOperator.TheVariants.{Compares}
use Rattle.vortex_expressions.specs.declared.kind_operators.KindedOperator.TheVariants.{Computes}
use Rattle.vortex_expressions.specs.Kinded.{value_item, kinded_operator, operated, joined_beside}
use Rattle.vortex_expressions.specs.Kinded.{span_operand, count_of, multiplied, multiplied_items}
use Rattle.vortex_expressions.specs.Kinded.{moved_items, spans_added, span_item}
use Rattle.vortex_expressions.specs.Kinded.{spans_joined, computed_item}
use Rattle.vortex_expressions.specs.Kinded.{values_joined, folded_or_joined, fraction_of}
use Rattle.vortex_expressions.specs.declared.folding.Exact.{Exact}
use Rattle.vortex_expressions.specs.Folding.{folded, exact_text, number_of}
use Rattle.vortex_expressions.specs.Kinded.{kinded_joined, kinded_between, within_bounds}
use Rattle.vortex_expressions.specs.Calls.{Names, names_in, joined_item, plain_joined, between_three}
use Rattle.vortex_expressions.specs.Calls.{between_all, between_tree, negated_if}
use Rattle.vortex_expressions.specs.Calls.{negated_item, listed_item, distinct_item, chosen_item}
use Rattle.vortex_expressions.specs.Calls.{conditions_of}
use Rattle.vortex_expressions.specs.KindWords.{kind_word}
use Rattle.vortex_expressions.specs.Functions.{call_kind, function_item, standard_item, meant_item}
use Rattle.vortex_expressions.specs.Functions.{applied_item, made_date, whole_item, kinds_item}
use Rattle.vortex_expressions.specs.Functions.{applied_by, by_pattern, joined_call, joining_item}
use Rattle.vortex_expressions.specs.Functions.{kinded_item, meant_by}
use Rattle.vortex_expressions.specs.Functions.{named_item}
use Rattle.vortex_expressions.specs.Joining.{joins, joined_texts}
use Rattle.vortex_expressions.specs.Calls.{is_concat, concat_item}
use Rattle.vortex_expressions.specs.Binding.{LogicalTree, item_by, items_by, branches_by, with_item}
use Rattle.vortex_expressions.specs.Binding.{of_items, ended, logical_of}
use Rattle.vortex_expressions.specs.FunctionRows.{FunctionsCallInKind, IsCall}
use Rattle.vortex_expressions.specs.RowLaws.{ComparesItems, ComputesItems, BoundsItems}
use Rattle.vortex_expressions.specs.RowLaws.{EitherBoundsItems, EitherBoundsBound, Shift, shift, shift_of, IntervalsShift}
use Rattle.vortex_expressions.specs.RowLaws.{ComparisonsCompare, ArithmeticComputes, BoundsBound}
use Rattle.vortex_expressions.specs.RowLaws.{NumbersFold, TimestampsElapse, IntervalsCompare}
use Rattle.vortex_expressions.specs.RowLaws.{ElapsesItem, ComparesSpans}
use Rattle.vortex_expressions.specs.RowLaws.{Multiple, multiple, multiple_of, SpansMultiply, SpansAdd}
use Rattle.vortex_expressions.specs.RowLaws.{Move, move, move_of, SpansMove}
use Rattle.vortex_expressions.specs.RowLaws.{ListsCall, DistinctCalls, NamesCall, CasesCall}
use Rattle.vortex_expressions.specs.RowLaws.{ElseCasesCall, TextsMeanTheirRows}
use Rattle.vortex_expressions.proofs.LiteralsOver.{Then, then_is, answers_is, text_read}
use Rattle.vortex_expressions.proofs.FunctionRows.{made_told, IsTold, item_told, functions}

-- behind the parts of a text
parts_are : {A : Type 0} (o p : Outcome Item) (f : Item → Item → Outcome A) (i j : Item) (a : A)
    → o ≡ answers i → p ≡ answers j → and_then o (λ x. and_then p (f x)) ≡ answers a
    → f i j ≡ answers a
parts_are o p f i j a h k e =
    ap (λ q. and_then q (f i)) (sym k) ∙ ap (λ q. and_then q (λ x. and_then p (f x))) (sym h) ∙ e

tree_is : (u : Tree) (t : LogicalTree) → ended (bound u) ≡ answers t → t.tree ≡ u
tree_is u t e =
    ap (λ x. x.tree) (sym (answers_is (record { tree = u; kind = Plain }) t e))

joined_kinded : (o : WrittenOperator) (i j r : Item) → is_concat o ≡ false
    → (is_kinded i || is_kinded j) ≡ true → joined_item o i j ≡ answers r
    → kinded_joined o i j ≡ answers r
joined_kinded o i j r c h e =
    ap (λ b. cond b (kinded_joined o i j) (plain_joined o i j)) (sym h)
    ∙ ap (λ b. cond b (concat_item i j)
    (cond (is_kinded i || is_kinded j) (kinded_joined o i j) (plain_joined o i j))) (sym c) ∙ e

-- what compares or computes joins no texts
compares_apart : (o : WrittenOperator) (op : CompareOperator) → kinded_operator o ≡ Compares op
    → is_concat o ≡ false
compares_apart written.Concat op c = cc
compares_apart o op c = refl

computes_apart : (o : WrittenOperator) (op : NumericOperator) → kinded_operator o ≡ Computes op
    → is_concat o ≡ false
computes_apart written.Concat op c = cc
computes_apart o op c = refl

values_of : (o : WrittenOperator) (q : KindedOperator) (i j r : Item) → kinded_operator o ≡ q
    → (is_interval i || is_interval j) ≡ false → kinded_joined o i j ≡ answers r
    → values_joined q i j ≡ answers r
values_of o q i j r c h e =
    ap (λ p. values_joined p i j) (sym c)
    ∙ ap (λ b. cond b (spans_joined (kinded_operator o) i j)
    (values_joined (kinded_operator o) i j)) (sym h) ∙ e

beside_of : (op : NumericOperator) (i j r : Item) → folded op i j ≡ None
    → values_joined (Computes op) i j ≡ answers r
    → joined_beside (first_kind (i ∷ j ∷ [])) (Computes op) i j ≡ answers r
beside_of op i j r h e = ap (λ f. folded_or_joined f (Computes op) i j) (sym h) ∙ e

spans_made : (o : WrittenOperator) (q : KindedOperator) (i j r : Item) → kinded_operator o ≡ q
    → (is_interval i || is_interval j) ≡ true → kinded_joined o i j ≡ answers r
    → spans_joined q i j ≡ answers r
spans_made o q i j r c h e =
    ap (λ p. spans_joined p i j) (sym c)
    ∙ ap (λ b. cond b (spans_joined (kinded_operator o) i j)
    (values_joined (kinded_operator o) i j)) (sym h) ∙ e

-- an interval is a value next to another
interval_kinded : (i j : Item) → (is_interval i || is_interval j) ≡ true
    → (is_kinded i || is_kinded j) ≡ true
interval_kinded (interval z) j h = refl
interval_kinded i (interval z) h = by (is_kinded i)
  where
    by : (b : Bool) → (b || true) ≡ true
    by true = refl
    by false = refl
interval_kinded i j h = absurd cc

-- literal numbers are no intervals
no_interval : (op : NumericOperator) (i j : Item) (w : List ℕ) → folded op i j ≡ Some w
    → (is_interval i || is_interval j) ≡ false
no_interval op i j w e = by i j e
  where
    behind : (o : Option Exact)
        → option_and_then exact_text (option_and_then (λ x. None) o) ≡ Some w → ⊥
    behind None h = cc
    behind (Some x) h = cc

    by : (i j : Item) → folded op i j ≡ Some w → (is_interval i || is_interval j) ≡ false
    by (interval z) j h = absurd cc
    by i (interval z) h = absurd (behind (number_of i) h)
    by i j h = refl

-- values are no intervals
no_value : (a : Operand) (u : Tree) (z : Timespan) → answers (value_item a u) ≡ answers (interval z) → ⊥
no_value (Whole p) u z e = cc
no_value (Of k) u z e = cc

no_fraction : (w : List ℕ) (z : Timespan) → fraction_of w ≡ answers (interval z) → ⊥
no_fraction w z e =
    let text = then_is (text_of w) (λ v. answers (fraction v)) (interval z) e in
    let no : answers (fraction text.a) ≡ answers (interval z) = text.second in cc

-- what has no tree is no difference of timestamps
value_made : (op : NumericOperator) (x y : Lowered) (r : Item) (t : LogicalTree)
    → computed_item op x y ≡ answers r → ended r ≡ answers t
    → and_then (told (computed op x y)) (λ z. answers (value_item z.operand z.tree)) ≡ answers r
value_made op x y r t e f = by (elapses op x.operand y.operand) e
  where
    value : Outcome Item
    value = and_then (told (computed op x y)) (λ z. answers (value_item z.operand z.tree))

    by : (b : Bool)
        → cond b (and_then (told (elapsed x y)) (λ u. answers (interval (Elapsed u)))) value ≡ answers r
        → value ≡ answers r
    by true g =
        let u = then_is (told (elapsed x y)) (λ u. answers (interval (Elapsed u))) r g in
        let no : ended (interval (Elapsed u.a)) ≡ answers t =
        ap ended (answers_is (interval (Elapsed u.a)) r u.second) ∙ f in
        absurd cc
    by false g = g

-- the microseconds of a difference
elapsed_is : (x y : Lowered) (t : Tree) → computed_item numeric.Sub x y ≡ answers (interval (Elapsed t))
    → told (elapsed x y) ≡ answers t
elapsed_is x y t e = by (elapses numeric.Sub x.operand y.operand) e
  where
    by : (b : Bool)
        → cond b (and_then (told (elapsed x y)) (λ u. answers (interval (Elapsed u))))
        (and_then (told (computed numeric.Sub x y)) (λ z. answers (value_item z.operand z.tree)))
        ≡ answers (interval (Elapsed t))
        → told (elapsed x y) ≡ answers t
    by true g =
        let u = then_is (told (elapsed x y)) (λ u. answers (interval (Elapsed u))) (interval (Elapsed t)) g in
        let same : answers (interval (Elapsed u.a)) ≡ answers (interval (Elapsed t)) = u.second in
        u.first ∙ ap (λ v. answers v) (let one : u.a ≡ t = cc in one)
    by false g =
        let z = then_is (told (computed numeric.Sub x y))
        (λ z. answers (value_item z.operand z.tree)) (interval (Elapsed t)) g in
        absurd (no_value z.a.operand z.a.tree (Elapsed t) z.second)

shift_is : (s u : Shift) → Some s ≡ Some u → s ≡ u
shift_is s u e = cc

-- an item moved by an interval
abbrev moved_by_shift : Shift → Outcome Item
moved_by_shift s =
    and_then (told (shifted s.operator s.value s.micros)) (λ x. answers (value_item x.operand x.tree))

shift_made : (o : WrittenOperator) (i j : Item) (s : Shift) (r : Item) → shift_of o i j ≡ Some s
    → joined_item o i j ≡ answers r → (is_sum s.operator ≡ true) × (moved_by_shift s ≡ answers r)
shift_made written.Add (kinded k t) (interval (Given (Micros z))) s r e f =
    let same = sym (shift_is (shift numeric.Add k t z) s e) in
    (ap (λ u. is_sum u.operator) same, ap moved_by_shift same ∙ f)
shift_made written.Add (interval (Given (Micros z))) (kinded k t) s r e f =
    let same = sym (shift_is (shift numeric.Add k t z) s e) in
    (ap (λ u. is_sum u.operator) same, ap moved_by_shift same ∙ f)
shift_made written.Sub (kinded k t) (interval (Given (Micros z))) s r e f =
    let same = sym (shift_is (shift numeric.Sub k t z) s e) in
    (ap (λ u. is_sum u.operator) same, ap moved_by_shift same ∙ f)
shift_made o i j s r e f = cc

multiple_is : (m n : Multiple) → Some m ≡ Some n → m ≡ n
multiple_is m n e = cc

or_true : (b : Bool) → (b || true) ≡ true
or_true true = refl
or_true false = refl

product_made : (i j r : Item) → (is_interval i || is_interval j) ≡ true
    → joined_item written.Mul i j ≡ answers r → multiplied_items i j ≡ answers r
product_made i j r h e =
    spans_made written.Mul (Computes numeric.Mul) i j r refl h
    (joined_kinded written.Mul i j r refl (interval_kinded i j h) e)

-- so many times an interval
abbrev multiplied_by : Multiple → Outcome Item
multiplied_by m = multiplied m.count m.timespan

multiple_made : (i j : Item) (m : Multiple) (r : Item) → multiple_of i j ≡ Some m
    → joined_item written.Mul i j ≡ answers r → multiplied_by m ≡ answers r
multiple_made i (interval s) m r e f =
    ap multiplied_by (sym (multiple_is (multiple i s) m e))
    ∙ product_made i (interval s) r (or_true (is_interval i)) f
multiple_made (interval s) j m r e f =
    ap multiplied_by (sym (multiple_is (multiple j s) m e)) ∙ product_made (interval s) j r refl f
multiple_made i j m r e f = cc

-- the sum of two intervals, and the difference
sum_made : (op : NumericOperator) (p q : Timespan) (r : Item) → is_sum op ≡ true
    → moved_items op (interval p) (interval q) ≡ answers r
    → spans_added op (interval p) (interval q) ≡ answers r
sum_made numeric.Add p q r h e = e
sum_made numeric.Sub p q r h e = e
sum_made numeric.Mul p q r h e = cc
sum_made numeric.Div p q r h e = cc

no_quotient : (op : NumericOperator) → is_sum op ≡ true → is_quotient op ≡ false
no_quotient numeric.Add h = refl
no_quotient numeric.Sub h = refl
no_quotient numeric.Mul h = cc
no_quotient numeric.Div h = cc

-- the microseconds of two as one
span_made : (o : calls.Outcome Tree) (t : Tree) → span_item (told o) ≡ answers (interval (Elapsed t))
    → o ≡ calls.made t
span_made o t e =
    let u = then_is (told o) (λ v. answers (interval (Elapsed v))) (interval (Elapsed t)) e in
    let same : answers (interval (Elapsed u.a)) ≡ answers (interval (Elapsed t)) = u.second in
    let is : u.a ≡ t = cc in made_told o t (u.first ∙ ap (λ v. answers v) is)

move_is : (m n : Move) → Some m ≡ Some n → m ≡ n
move_is m n e = cc

-- a value that microseconds move
abbrev moved_by_move : Move → Outcome Item
moved_by_move m =
    and_then (told (moved_instant m.operator m.value m.micros))
    (λ x. answers (value_item x.operand x.tree))

move_made : (o : WrittenOperator) (i j : Item) (m : Move) (r : Item) → move_of o i j ≡ Some m
    → joined_item o i j ≡ answers r → (is_sum m.operator ≡ true) × (moved_by_move m ≡ answers r)
move_made written.Add (kinded k t) (interval (Elapsed u)) m r e f =
    let same = sym (move_is (move numeric.Add k t u) m e) in
    (ap (λ n. is_sum n.operator) same, ap moved_by_move same ∙ f)
move_made written.Add (interval (Elapsed u)) (kinded k t) m r e f =
    let same = sym (move_is (move numeric.Add k t u) m e) in
    (ap (λ n. is_sum n.operator) same, ap moved_by_move same ∙ f)
move_made written.Sub (kinded k t) (interval (Elapsed u)) m r e f =
    let same = sym (move_is (move numeric.Sub k t u) m e) in
    (ap (λ n. is_sum n.operator) same, ap moved_by_move same ∙ f)
move_made o i j m r e f = cc

module _ (scope : Fields) (kinds : List Kind) where
  abbrev names : Names
  names = names_in scope kinds

  comparisons : ComparisonsGoByOrder → ComparisonsCompare scope kinds
  comparisons law o op a b i j t c h k g n e =
      let whole = then_is (and_then (item_by names a)
      (λ x. and_then (item_by names b) (joined_item o x))) ended t e in
      let r = whole.a in
      let one = parts_are (item_by names a) (item_by names b) (joined_item o) i j r h k whole.first in
      let kinded = joined_kinded o i j r (compares_apart o op c) g one in
      let beside = values_of o (Compares op) i j r c n kinded in
      let left = then_is (item_operand (first_kind (i ∷ j ∷ [])) i) _ r beside in
      let right = then_is (item_operand (first_kind (i ∷ j ∷ [])) j) _ r left.second in
      let done = item_told (told (compared op left.a right.a)) r right.second in
      let same : t.tree ≡ done.tree =
      tree_is done.tree t (ap ended done.same ∙ whole.second) in
      let rows = law op left.a right.a t.tree
      (made_told (compared op left.a right.a) t.tree (done.is ∙ ap (λ u. answers u) (sym same))) in
      record { x = left.a; y = right.a; left = left.first; right = right.first; rows = rows }

  arithmetic : ComputationsAreExact → ArithmeticComputes scope kinds
  arithmetic law o op a b i j t c h k g n f e =
      let whole = then_is (and_then (item_by names a)
      (λ x. and_then (item_by names b) (joined_item o x))) ended t e in
      let r = whole.a in
      let one = parts_are (item_by names a) (item_by names b) (joined_item o) i j r h k whole.first in
      let kinded = joined_kinded o i j r (computes_apart o op c) g one in
      let beside = beside_of op i j r f (values_of o (Computes op) i j r c n kinded) in
      let left = then_is (item_operand (first_kind (i ∷ j ∷ [])) i) _ r beside in
      let right = then_is (item_operand (first_kind (i ∷ j ∷ [])) j) _ r left.second in
      let done = then_is (told (computed op left.a right.a))
      (λ z. answers (value_item z.operand z.tree)) r
      (value_made op left.a right.a r t right.second whole.second) in
      let z = done.a in
      record {
        x = left.a;
        y = right.a;
        z = z;
        left = left.first;
        right = right.first;
        value = ap ended (answers_is (value_item z.operand z.tree) r done.second) ∙ whole.second;
        rows = λ m. law op left.a right.a z m (made_told (computed op left.a right.a) z done.first);
      }

  numbers : NumbersFold scope kinds
  numbers o op a b i j w t c h k g f e =
      let whole = then_is (and_then (item_by names a)
      (λ x. and_then (item_by names b) (joined_item o x))) ended t e in
      let r = whole.a in
      let one = parts_are (item_by names a) (item_by names b) (joined_item o) i j r h k whole.first in
      let kinded = joined_kinded o i j r (computes_apart o op c) g one in
      let values = values_of o (Computes op) i j r c (no_interval op i j w f) kinded in
      let made : fraction_of w ≡ answers r =
      ap (λ q. folded_or_joined q (Computes op) i j) (sym f) ∙ values in
      let text = then_is (text_of w) (λ v. answers (fraction v)) r made in
      let same = ap fraction (text_read w text.a text.first).same in
      ap ended (same ∙ answers_is (fraction text.a) r text.second) ∙ whole.second

  -- intervals, and differences of timestamps
  intervals : ComparisonsGoByOrder → IntervalsCompare scope kinds
  intervals law o op a b i j t c h k g e =
      let whole = then_is (and_then (item_by names a)
      (λ x. and_then (item_by names b) (joined_item o x))) ended t e in
      let r = whole.a in
      let one = parts_are (item_by names a) (item_by names b) (joined_item o) i j r h k whole.first in
      let kinded = joined_kinded o i j r (compares_apart o op c) (interval_kinded i j g) one in
      let spans = spans_made o (Compares op) i j r c g kinded in
      let left = then_is (span_operand i) _ r spans in
      let right = then_is (span_operand j) _ r left.second in
      let done = item_told (told (compared op left.a right.a)) r right.second in
      let same : t.tree ≡ done.tree =
      tree_is done.tree t (ap ended done.same ∙ whole.second) in
      let rows = law op left.a right.a t.tree
      (made_told (compared op left.a right.a) t.tree (done.is ∙ ap (λ u. answers u) (sym same))) in
      record { x = left.a; y = right.a; left = left.first; right = right.first; rows = rows }

  elapses_beside : InstantsElapse → (i j : Item) (t : Tree)
      → joined_beside (first_kind (i ∷ j ∷ [])) (Computes numeric.Sub) i j
      ≡ answers (interval (Elapsed t))
      → ElapsesItem i j t
  elapses_beside law i j t e =
      let r = interval (Elapsed t) in
      let left = then_is (item_operand (first_kind (i ∷ j ∷ [])) i) _ r e in
      let right = then_is (item_operand (first_kind (i ∷ j ∷ [])) j) _ r left.second in
      let micros = made_told (elapsed left.a right.a) t (elapsed_is left.a right.a t right.second) in
      record {
        x = left.a;
        y = right.a;
        left = left.first;
        right = right.first;
        rows = law left.a right.a t micros;
      }

  differences : InstantsElapse → TimestampsElapse scope kinds
  differences law o a b i j t c h k g n e =
      let r = interval (Elapsed t) in
      let one = parts_are (item_by names a) (item_by names b) (joined_item o) i j r h k e in
      let kinded = joined_kinded o i j r (computes_apart o numeric.Sub c) g one in
      by (folded numeric.Sub i j) (values_of o (Computes numeric.Sub) i j r c n kinded)
    where
      by : (f : Option (List ℕ))
          → folded_or_joined f (Computes numeric.Sub) i j ≡ answers (interval (Elapsed t))
          → ElapsesItem i j t
      by (Some w) q = absurd (no_fraction w (Elapsed t) q)
      by None q = elapses_beside law i j t q

  -- a BETWEEN of three items
  three_bounds : BoundsGoByOrder → (i j k : Item) (u : Tree)
      → (is_kinded i || (is_kinded j || is_kinded k)) ≡ true → between_three i j k ≡ answers u
      → BoundsItems i j k u
  three_bounds law i j k u g three =
      let kinded = ap (λ b. cond b (kinded_between i j k) (between_all (i ∷ j ∷ k ∷ []))) (sym g) ∙ three in
      let kind = first_kind (i ∷ j ∷ k ∷ []) in
      let x = then_is (item_operand kind i) _ u kinded in
      let y = then_is (item_operand kind j) _ u x.second in
      let z = then_is (item_operand kind k) _ u y.second in
      let rows = law within_bounds x.a y.a z.a u
      (made_told (bounds.between within_bounds x.a y.a z.a) u z.second) in
      record {
        x = x.a;
        y = y.a;
        z = z.a;
        operand = x.first;
        lower = y.first;
        upper = z.first;
        rows = rows;
      }

  -- the tree of a BETWEEN in a text, before it is negated
  bounds_tree : (s n : Bool) (a low high : Syntax) (i j k : Item) (t : LogicalTree)
      → item_by names a ≡ answers i → item_by names low ≡ answers j → item_by names high ≡ answers k
      → logical_of scope kinds (between (record { negated = n; symmetric = s }) a low high) ≡ answers t
      → (u : Tree) × (between_tree s i j k ≡ answers u) × (negated_if n u ≡ answers t.tree)
  bounds_tree s n a low high i j k t h l m e =
      let whole = then_is (and_then (item_by names a)
      (λ x. and_then (item_by names low) (λ y. and_then (item_by names high)
      (λ z. as_item (and_then (between_tree s x y z) (negated_if n)))))) ended t e in
      let r = whole.a in
      let first = ap (λ p. and_then p (λ x. and_then (item_by names low) (λ y. and_then (item_by names high)
      (λ z. as_item (and_then (between_tree s x y z) (negated_if n)))))) (sym h) ∙ whole.first in
      let two = parts_are (item_by names low) (item_by names high)
      (λ y z. as_item (and_then (between_tree s i y z) (negated_if n))) j k r l m first in
      let done = item_told (and_then (between_tree s i j k) (negated_if n)) r two in
      let plain = then_is (between_tree s i j k) (negated_if n) done.tree done.is in
      let same : t.tree ≡ done.tree = tree_is done.tree t (ap ended done.same ∙ whole.second) in
      (plain.a, plain.first, plain.second ∙ ap (λ v. answers v) (sym same))

  all_bounds : BoundsGoByOrder → BoundsBound scope kinds
  all_bounds law n a low high i j k t h l m g e =
      let u = bounds_tree false n a low high i j k t h l m e in
      (u.0, three_bounds law i j k u.0 g u.1, u.2)

  -- bounds in the other order have the same kinds
  or_turned : (a b c : Bool) → (a || (b || c)) ≡ true → (a || (c || b)) ≡ true
  or_turned true b c h = refl
  or_turned false true true h = refl
  or_turned false true false h = refl
  or_turned false false true h = refl
  or_turned false false false h = cc

  either : BoundsGoByOrder → EitherBoundsBound scope kinds
  either law n a low high i j k t h l m g e =
      let u = bounds_tree true n a low high i j k t h l m e in
      let one = then_is (between_three i j k) _ u.0 u.1 in
      let two = then_is (between_three i k j) _ u.0 one.second in
      let bounds : EitherBoundsItems i j k u.0 = record {
        first = one.a;
        second = two.a;
        as_written = three_bounds law i j k one.a g one.first;
        turned =
            three_bounds law i k j two.a (or_turned (is_kinded i) (is_kinded j) (is_kinded k) g) two.first;
        either = two.second;
      } in
      (u.0, bounds, u.2)

  -- a value that an interval moves
  shifts : IntervalsMove → IntervalsShift scope kinds
  shifts law o a b i j s t h k e f =
      let whole = then_is (and_then (item_by names a)
      (λ x. and_then (item_by names b) (joined_item o x))) ended t f in
      let r = whole.a in
      let one = parts_are (item_by names a) (item_by names b) (joined_item o) i j r h k whole.first in
      let is = shift_made o i j s r e one in
      let done = then_is (told (shifted s.operator s.value s.micros))
      (λ x. answers (value_item x.operand x.tree)) r is.1 in
      let w = done.a in
      record {
        w = w;
        value = ap ended (answers_is (value_item w.operand w.tree) r done.second) ∙ whole.second;
        rows = law s.operator s.value w s.micros is.0
            (made_told (shifted s.operator s.value s.micros) w done.first);
      }

  -- so many times an interval
  multiples : SpansCompute → SpansMultiply scope kinds
  multiples law a b i j m t h k e f =
      let r = interval (Elapsed t) in
      let one = parts_are (item_by names a) (item_by names b) (joined_item written.Mul) i j r h k f in
      let x = then_is (count_of m.count) _ r (multiple_made i j m r e one) in
      let n = then_is (told (counted x.a)) _ r x.second in
      let y = then_is (span_operand (interval m.timespan)) _ r n.second in
      let product = spans_computed numeric.Mul n.a.tree y.a.tree in
      record {
        x = x.a;
        n = n.a;
        y = y.a;
        count = x.first;
        whole = made_told (counted x.a) n.a n.first;
        micros = y.first;
        rows = law numeric.Mul n.a.tree y.a.tree t refl (span_made product t y.second);
      }

  -- the sum of two, and the difference
  sums_of_spans : SpansCompute → SpansAdd scope kinds
  sums_of_spans law o op a b p q t c h k l f =
      let r = interval (Elapsed t) in
      let i = interval p in
      let j = interval q in
      let one = parts_are (item_by names a) (item_by names b) (joined_item o) i j r k l f in
      let kinded = joined_kinded o i j r (computes_apart o op c) refl one in
      let made = sum_made op p q r h (spans_made o (Computes op) i j r c refl kinded) in
      let x = then_is (span_operand i) _ r made in
      let y = then_is (span_operand j) _ r x.second in
      let sum = spans_computed op x.a.tree y.a.tree in
      record {
        x = x.a;
        y = y.a;
        left = x.first;
        right = y.first;
        rows = law op x.a.tree y.a.tree t (no_quotient op h) (span_made sum t y.second);
      }

  -- a value that microseconds move
  moves : InstantsMove → SpansMove scope kinds
  moves law o a b i j m t h k e f =
      let whole = then_is (and_then (item_by names a)
      (λ x. and_then (item_by names b) (joined_item o x))) ended t f in
      let r = whole.a in
      let one = parts_are (item_by names a) (item_by names b) (joined_item o) i j r h k whole.first in
      let is = move_made o i j m r e one in
      let moved = moved_instant m.operator m.value m.micros in
      let done = then_is (told moved) (λ x. answers (value_item x.operand x.tree)) r is.1 in
      let w = done.a in
      record {
        w = w;
        value = ap ended (answers_is (value_item w.operand w.tree) r done.second) ∙ whole.second;
        rows = law m.operator m.value w m.micros is.0 (made_told moved w done.first);
      }

  module _ (law : FunctionsCallInKind) where
    called : (f : Standard) (is : List Item) (p : Item → Outcome Item) (r : Item)
        → and_then (function_item f is) p ≡ answers r → IsCall f is p r
    called f is p r e =
        let one = then_is (function_item f is) p r e in
        record { called = one.a; calls = λ k. law f is one.a k one.first; made = one.second }

    -- of items, the last of which is first
    ended_call : (f : Standard) (is : List Item) (p : Item → Outcome Item) (q : List Item → Outcome Item)
        (o : Outcome (List Item)) (us : List Item) (t : LogicalTree) → o ≡ answers us
        → ((r : Item) → q (reverse us) ≡ answers r → IsCall f is p r)
        → and_then (of_items q o) ended ≡ answers t
        → (r : Item) × IsCall f is p r × (ended r ≡ answers t)
    ended_call f is p q o us t h call e =
        let whole = then_is (of_items q o) ended t e in
        let one : q (reverse us) ≡ answers whole.a = ap (λ x. of_items q x) (sym h) ∙ whole.first in
        (whole.a, call whole.a one, whole.second)

    lists : ListsCall scope kinds
    lists n a b args us t h e =
        ended_call standard.InList (reverse us) (negated_item n) (listed_item n) _ us t h
        (λ r k. called standard.InList (reverse us) (negated_item n) r k) e

    distinctions : DistinctCalls scope kinds
    distinctions n a b i j t h k e =
        let whole = then_is (and_then (item_by names a) (λ x. and_then (item_by names b)
        (distinct_item n x))) ended t e in
        let one = parts_are (item_by names a) (item_by names b) (distinct_item n) i j whole.a h k whole.first in
        (whole.a, called standard.IsDistinct (i ∷ j ∷ []) (negated_item n) whole.a one, whole.second)

    -- the function of a name that means nothing else next to values of kinds
    named_call : (w : List ℕ) (f : Standard) (is : List Item) (r : Item) → kind_word w ≡ None
        → standard_named w ≡ Some f → applied_item w is ≡ answers r → IsCall f is answers r
    named_call w f is r k n e =
        let one : standard_item w is ≡ answers r = by (is_plain (first_kind is)) e in
        let two : function_item f is ≡ answers r =
        ap (λ o. and_then (or_refuses NoFunction o) (λ g. function_item g is)) (sym n) ∙ one in
        record { called = r; calls = λ p. law f is r p two; made = refl }
      where
        by : (b : Bool) → cond b (standard_item w is) (meant_item (kind_word w) w is) ≡ answers r
            → standard_item w is ≡ answers r
        by true h = h
        by false h = ap (λ (o : Option KindName). meant_item o w is) (sym k) ∙ h

    -- over columns with kinds that of texts takes more
    joins_plain : (f : Standard) (is : List Item) → joins f ≡ true → is_plain (call_kind f is) ≡ true
    joins_plain standard.ConcatAll is h = refl
    joins_plain standard.ConcatWs is h = refl
    joins_plain f is h = cc

    joined_kinds : (f : Standard) (is : List Item) (r : Item) → joined_call f is ≡ answers r
        → IsCall f is answers r
    joined_kinds f is r e = choose (joins f) refl e
      where
        choose : (b : Bool) → joins f ≡ b
            → cond b (joined_texts f is) (function_item f is) ≡ answers r → IsCall f is answers r
        choose true j h =
            record {
              called = r;
              calls = λ p. (let no : true ≡ false = sym (joins_plain f is j) ∙ p in absurd cc);
              made = refl;
            }
        choose false j h = record { called = r; calls = λ p. law f is r p h; made = refl }

    named_kinds : (w : List ℕ) (f : Standard) (is : List Item) (r : Item) → kind_word w ≡ None
        → standard_named w ≡ Some f → kinds_item w is ≡ answers r
        → IsCall (by_pattern f is) is answers r
    named_kinds w f is r k n e =
        let one : joining_item w is ≡ answers r = by (is_plain (first_kind is)) e in
        joined_kinds (by_pattern f is) is r (ap (λ o. named_item o w is) (sym n) ∙ one)
      where
        by : (b : Bool)
            → cond b (whole_item (kind_word w) w is) (kinded_item (kind_word w) w is) ≡ answers r
            → joining_item w is ≡ answers r
        by true h = ap (λ (o : Option KindName). whole_item o w is) (sym k) ∙ h
        by false h = ap (λ (o : Option KindName). kinded_item o w is) (sym k) ∙ h

    -- that of no date
    named_by : (h : Bool) (w : List ℕ) (f : Standard) (is : List Item) (r : Item)
        → same_word w (codes "make_date") ≡ false → kind_word w ≡ None
        → standard_named w ≡ Some f → applied_by h w is ≡ answers r
        → IsCall (meant_by h f is) is answers r
    named_by false w f is r m k n e = named_call w f is r k n e
    named_by true w f is r m k n e =
        named_kinds w f is r k n
        (ap (λ b. cond b (made_date is) (kinds_item w is)) (sym m) ∙ e)

    names_call : NamesCall scope kinds
    names_call p w args a f us t m k n h e =
        ended_call (meant_by names.has_kinds f (reverse us)) (reverse us) answers
        (applied_by names.has_kinds w) _ us t h
        (λ r g. named_by names.has_kinds w f (reverse us) r m k n g) e

    case_call : (b : Bool) (is js : List Item) (r : Item) → conditions_of b is ≡ answers js
        → chosen_item b is ≡ answers r → IsCall standard.Case js answers r
    case_call b is js r h e =
        let one : function_item standard.Case js ≡ answers r =
        ap (λ o. and_then o (function_item standard.Case)) (sym h) ∙ e in
        record { called = r; calls = λ p. law standard.Case js r p one; made = refl }

    cases : CasesCall scope kinds
    cases bs c v us js t h k e =
        ended_call standard.Case js answers (chosen_item (has_operand bs)) _ us t h
        (λ r g. case_call (has_operand bs) (reverse us) js r k g) e

    cases_with_else : ElseCasesCall scope kinds
    cases_with_else bs c v d us js t h k e =
        ended_call standard.Case js answers (chosen_item (has_operand bs)) _ us t h
        (λ r g. case_call (has_operand bs) (reverse us) js r k g) e

  pub texts : ComparisonsGoByOrder → BoundsGoByOrder → ComputationsAreExact → IntervalsMove
      → InstantsElapse → ValuesAreAligned → KindsMeet → SpansCompute → InstantsMove
      → TextsMeanTheirRows scope kinds
  texts c b a s d v m p q = record {
    comparisons = comparisons c;
    bounds = all_bounds b;
    either_bounds = either b;
    arithmetic = arithmetic a;
    numbers = numbers;
    shifts = shifts s;
    differences = differences d;
    intervals = intervals c;
    multiples = multiples p;
    sums_of_spans = sums_of_spans p;
    moves = moves q;
    lists = lists (functions v m);
    distinctions = distinctions (functions v m);
    functions = names_call (functions v m);
    cases = cases (functions v m);
    cases_with_else = cases_with_else (functions v m);
  }
