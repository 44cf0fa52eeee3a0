-- Between two literals, in order, of an exact argument has an exact range.
use Rattle.std.specs.Prelude.{◌≡◌, ◌&&◌, ◌||◌, ℕ, ◌<◌, List, [], ◌∷◌, Bool, true, false, not}
use Rattle.std.specs.Prelude.{Option, Some, None, refl}
use Rattle.std.specs.declared.cmp.Ordering.{Ordering}
use Rattle.std.specs.declared.cmp.Ordering.TheVariants.{Less, Equal, Greater}
use Rattle.std.specs.Ordering.{is_gt}
use Rattle.std.proofs.Common.{sym, ap, ◌∙◌, subst, inl, inr}
use Rattle.vortex_types.specs.LogicalTypes.{LogicalType, bool_type}
use Rattle.vortex_types.specs.ScalarView.{ScalarView}
use Rattle.vortex_types.specs.Values.{Value, null, truth}
use Rattle.vortex_types.specs.Order.{compare_values}
use Rattle.vortex_types.specs.OrderLaws.{equals_are_same}
use Rattle.vortex_columns.specs.ColumnView.{ColumnView}
use Rattle.vortex_operators.specs.declared.operators.Operator.TheVariants.{And}
use Rattle.vortex_operators.specs.declared.operators.CompareOperator.TheVariants.{Lte}
use Rattle.vortex_operators.specs.Between.{between_value}
use Rattle.vortex_operators.specs.OperatorValues.{holds, boolean_value}
use Rattle.vortex_statistics.specs.StatisticsView.{StatisticsView}
use Rattle.vortex_interface.specs.Outcomes.{gives}
use Rattle.vortex_interface.specs.Meaning.{Meaning}
use Rattle.vortex_interface.specs.Shipped.{Between}
use Rattle.vortex_interface.specs.Shipped.BinaryFunction.{null_compared}
use Rattle.vortex_interface.specs.Functions.{Function, ours, function_means}
use Rattle.vortex_interface.specs.Trees.{Tree, constant, call, no_trees, tree}
use Rattle.vortex_interface.specs.Eval.{all_give, with_first, then_means, types_or_none, tree_types}
use Rattle.vortex_interface.specs.Eval.{eval}
use Rattle.vortex_ranges.specs.Ranges.{RangeView, is_above, is_under, is_over, is_inside, may_be}
use Rattle.vortex_ranges.specs.Truths.{truths, may_be_unknown, may_be_true, may_be_false}
use Rattle.vortex_ranges.specs.Truths.{unknown_of_both}
use Rattle.vortex_ranges.specs.Comparing.{may_pass, comparison, betweenness}
use Rattle.vortex_ranges.specs.Described.{DescribeAll}
use Rattle.vortex_ranges.specs.Reached.{inclusive}
use Rattle.vortex_ranges.proofs.Tests.{both, first, second, refuted, either_way}
use Rattle.vortex_ranges.proofs.Above.{chained, not_itself, not_under, not_over, lies_inside, inside}
use Rattle.vortex_pruning.specs.Exact.{IsReached, Gives, IsValueOf, HasEnds, IsExact}
use Rattle.vortex_pruning.proofs.OrderedPairs.{pair, some_order, one_of, above_is_less}
use Rattle.vortex_pruning.proofs.OrderedPairs.{low_inside}
use Rattle.vortex_pruning.proofs.SoleValues.{one_value}
use Rattle.vortex_pruning.proofs.ExactLeaves.{truths_exact}
use Rattle.vortex_pruning.proofs.ExactTrees.{valid_comparison}

-- the range of one value
abbrev pub single : Value → RangeView
single v = record {
  may_fault = false;
  may_be_null = false;
  may_be_value = true;
  low = Some v;
  high = Some v;
}

single_ends : (k : LogicalType) (v : Value) → IsValueOf k v → HasEnds k (single v)
single_ends k v h =
    record {
      low = v;
      is_low = refl;
      low_value = h;
      low_inside = not_itself v;
      high = h;
    }

-- what it admits is that value
is_single : (v w : Value) → may_be (single v) w ≡ true → v ≡ w
is_single v w e =
    let inner = lies_inside (single v) w e in
    one_value v w (not_under (Some v) (Some v) w inner) (not_over (Some v) (Some v) w inner)

unknown_of : (u n s : Bool) → may_be_unknown (truths u n s) ≡ u
unknown_of true n s = refl
unknown_of false true true = refl
unknown_of false true false = refl
unknown_of false false true = refl
unknown_of false false false = refl

true_of : (u n s : Bool) → may_be_true (truths u n s) ≡ s
true_of u true true = refl
true_of u true false = refl
true_of u false true = refl
true_of u false false = refl

false_of : (u n s : Bool) → may_be_false (truths u n s) ≡ n
false_of u true true = refl
false_of u true false = refl
false_of u false true = refl
false_of u false false = refl

without : (u : Bool) → (u || false) ≡ u
without true = refl
without false = refl

from_unknown : (u x y : Bool) → unknown_of_both u x u y ≡ true → u ≡ true
from_unknown true x y e = refl
from_unknown false true y e = cc
from_unknown false false y e = cc

and_of : (a b : Bool) → boolean_value And (truth a) (truth b) ≡ truth (a && b)
and_of true true = refl
and_of true false = refl
and_of false true = refl
and_of false false = refl

and_false : (a : Bool) → (a && false) ≡ false
and_false true = refl
and_false false = refl

at_most : (o : Ordering) → is_gt o ≡ false → holds Lte o ≡ true
at_most Less e = refl
at_most Equal e = refl
at_most Greater e = cc

greater_alone : (o : Ordering) → not (holds Lte o) ≡ true → is_gt o ≡ true
greater_alone Less e = cc
greater_alone Equal e = cc
greater_alone Greater e = refl

not_greater : (o : Ordering) → holds Lte o ≡ true → is_gt o ≡ false
not_greater Less e = refl
not_greater Equal e = refl
not_greater Greater e = cc

above_fails : (o : Ordering) → is_gt o ≡ true → holds Lte o ≡ false
above_fails Less e = cc
above_fails Equal e = cc
above_fails Greater e = refl

below : (v w : Value) (high : Option Value) → is_above v w ≡ false → is_over high w ≡ false
    → is_over high v ≡ false
below v w None d e = refl
below v w (Some h) d e = chained v w h d e

module _ {V O : Type 0} (m : Meaning V O) (n : ℕ) (ss : List StatisticsView)
    (base : List ColumnView) (d : DescribeAll n ss base) (some : 0 < n) where
  abbrev Reaches : Tree V O → Value → Type 0
  Reaches t v = IsReached m n ss t (Gives v)

  abbrev pub between : Tree V O → ScalarView → ScalarView → Tree V O
  between t lower upper =
      call (ours (Between inclusive)) (tree t (tree (constant lower) (tree (constant upper) no_trees)))

  eval_three : (cs : List ColumnView) (i : ℕ) (f : Function V O) (x y z : Tree V O) (v w u : Value)
      → eval m cs x i ≡ gives v → eval m cs y i ≡ gives w → eval m cs z i ≡ gives u
      → eval m cs (call f (tree x (tree y (tree z no_trees)))) i
      ≡ function_means m f (types_or_none (tree_types m (tree x (tree y (tree z no_trees)))))
      (v ∷ w ∷ u ∷ [])
  eval_three cs i f x y z v w u h k l =
      let means =
      function_means m f (types_or_none (tree_types m (tree x (tree y (tree z no_trees))))) in
      ap (then_means means)
      (λ j. with_first (h j) (with_first (k j) (with_first (l j) (all_give []))))

  module _ (t : Tree V O) (lower upper : ScalarView) (k : LogicalType) (b : Bool) (r : RangeView)
      (x : IsExact m n ss t k r) (lower_there : IsValueOf k lower.value)
      (upper_there : IsValueOf k upper.value)
      (ordered : is_above lower.value upper.value ≡ false) where
    abbrev l : Value
    l = lower.value

    abbrev u : Value
    u = upper.value

    abbrev left : RangeView
    left = comparison Lte (single l) r

    abbrev right : RangeView
    right = comparison Lte r (single u)

    reached : (v w : Value) → Reaches t v → between_value inclusive l v u ≡ w
        → Reaches (between t lower upper) w
    reached v w h e =
        record {
          columns = h.columns;
          described = h.described;
          here = eval_three h.columns 0 (ours (Between inclusive)) t (constant lower)
              (constant upper) v l u h.here refl refl ∙ ap gives e;
        }

    told : (v : Value) (a c : Bool) → IsValueOf k v → holds Lte (compare_values l v) ≡ a
        → holds Lte (compare_values v u) ≡ c → between_value inclusive l v u ≡ truth (a && c)
    told v a c h e f =
        (λ i. boolean_value And (valid_comparison Lte l v lower_there.valid h.valid i)
        (valid_comparison Lte v u h.valid upper_there.valid i))
        ∙ (λ i. boolean_value And (truth (e i)) (truth (f i)))
        ∙ and_of a c

    given : (v : Value) (a c : Bool) → IsValueOf k v → may_be r v ≡ true
        → holds Lte (compare_values l v) ≡ a → holds Lte (compare_values v u) ≡ c
        → Reaches (between t lower upper) (truth (a && c))
    given v a c h g e f = reached v (truth (a && c)) (x.values v h g) (told v a c h e f)

    -- null
    unknown : unknown_of_both (may_be_unknown left) (may_be_true left) (may_be_unknown right)
        (may_be_true right) ≡ true → Reaches (between t lower upper) null
    unknown e =
        let one : may_be_unknown left ≡ r.may_be_null =
        unknown_of r.may_be_null (may_pass (λ o. not (holds Lte o)) (single l) r)
        (may_pass (holds Lte) (single l) r) in
        let two : may_be_unknown right ≡ r.may_be_null =
        unknown_of (r.may_be_null || false) (may_pass (λ o. not (holds Lte o)) r (single u))
        (may_pass (holds Lte) r (single u)) ∙ without r.may_be_null in
        let same : unknown_of_both (may_be_unknown left) (may_be_true left) (may_be_unknown right)
        (may_be_true right)
        ≡ unknown_of_both r.may_be_null (may_be_true left) r.may_be_null (may_be_true right) =
        λ i. unknown_of_both (one i) (may_be_true left) (two i) (may_be_true right) in
        let nulls =
        from_unknown r.may_be_null (may_be_true left) (may_be_true right) (sym same ∙ e) in
        reached null null (x.nulls nulls)
        (ap (λ v. boolean_value And v null) (null_compared Lte l))

    -- pairs of a bound and a value
    from_left : (test : Ordering → Bool) → may_pass test (single l) r ≡ true
        → (v : Value) × IsValueOf k v × (may_be r v ≡ true) × (test (compare_values l v) ≡ true)
    from_left test e =
        let o = some_order test (single l) r e in
        let there = second true r.may_be_value (first (true && r.may_be_value) _ e) in
        let p =
        pair k k (single l) r refl there (single_ends k l lower_there) (x.ends there) (λ z h. h)
        (λ z h. h) o.0 o.2 in (
          p.right,
          p.right_there,
          p.right_inside,
          ap (λ y. test (compare_values y p.right)) (is_single l p.left p.left_inside)
              ∙ ap test p.order ∙ o.1,
        )

    from_right : (test : Ordering → Bool) → may_pass test r (single u) ≡ true
        → (v : Value) × IsValueOf k v × (may_be r v ≡ true) × (test (compare_values v u) ≡ true)
    from_right test e =
        let o = some_order test r (single u) e in
        let there = first r.may_be_value true (first (r.may_be_value && true) _ e) in
        let p =
        pair k k r (single u) there refl (x.ends there) (single_ends k u upper_there) (λ z h. h)
        (λ z h. h) o.0 o.2 in (
          p.left,
          p.left_there,
          p.left_inside,
          ap (λ y. test (compare_values p.left y)) (is_single u p.right p.right_inside)
              ∙ ap test p.order ∙ o.1,
        )

    abbrev fails : Ordering → Bool
    fails o = not (holds Lte o)

    untrue : (may_be_false left || may_be_false right) ≡ true
        → Reaches (between t lower upper) (truth false)
    untrue e =
        elim (one_of (may_be_false left) (may_be_false right) e) [
          | inl h ↦
              let v =
              from_left fails
              (sym (false_of r.may_be_null (may_pass fails (single l) r)
              (may_pass (holds Lte) (single l) r)) ∙ h) in
              given v.0 false (holds Lte (compare_values v.0 u)) v.1 v.2
              (refuted (holds Lte (compare_values l v.0)) v.3) refl
          | inr h ↦
              let v =
              from_right fails
              (sym (false_of (r.may_be_null || false) (may_pass fails r (single u))
              (may_pass (holds Lte) r (single u))) ∙ h) in
              let a = holds Lte (compare_values l v.0) in
              subst (λ c. Reaches (between t lower upper) (truth c)) (and_false a)
              (given v.0 a false v.1 v.2 refl (refuted (holds Lte (compare_values v.0 u)) v.3))
        ]

    -- the higher of the lower bound and the low end lies between the bounds
    sure : (may_be_true left && may_be_true right) ≡ true
        → Reaches (between t lower upper) (truth true)
    sure e =
        let p =
        from_left (holds Lte)
        (sym (true_of r.may_be_null (may_pass fails (single l) r)
        (may_pass (holds Lte) (single l) r))
        ∙ first (may_be_true left) (may_be_true right) e) in
        let q =
        from_right (holds Lte)
        (sym (true_of (r.may_be_null || false) (may_pass fails r (single u))
        (may_pass (holds Lte) r (single u)))
        ∙ second (may_be_true left) (may_be_true right) e) in
        let there = first r.may_be_value (is_inside r.low r.high p.0) p.2 in
        let ends = x.ends there in
        let low = ends.low in
        either_way (is_above low l)
        (λ y.
        let under : is_above low q.0 ≡ false =
        subst (λ (o : Option Value). is_under o q.0 ≡ false) ends.is_low
        (not_under r.low r.high q.0 (lies_inside r q.0 q.2)) in
        given low true true ends.low_value (low_inside k r there ends)
        (ap (holds Lte) (above_is_less l low y))
        (at_most (compare_values low u)
        (chained low q.0 u under (not_greater (compare_values q.0 u) q.3))))
        (λ z.
        let over : is_over r.high l ≡ false =
        below l p.0 r.high (not_greater (compare_values l p.0) p.3)
        (not_over r.low r.high p.0 (lies_inside r p.0 p.2)) in
        given l true true lower_there
        (both r.may_be_value (is_inside r.low r.high l) there
        (inside r.low r.high l
        (subst (λ (o : Option Value). is_under o l ≡ false) (sym ends.is_low) z) over))
        (ap (holds Lte) (equals_are_same.equal l)) (at_most (compare_values l u) ordered))

    pub between_exact : IsExact m n ss (between t lower upper) (bool_type b)
        (betweenness inclusive (single l) r (single u))
    between_exact =
        truths_exact m n ss base d some (between t lower upper) b
        (unknown_of_both (may_be_unknown left) (may_be_true left) (may_be_unknown right)
        (may_be_true right))
        (may_be_false left || may_be_false right) (may_be_true left && may_be_true right)
        unknown untrue sure
