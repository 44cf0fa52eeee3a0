-- Values between two ends that lie between two literals, and that do not.
use Rattle.std.specs.Prelude.{◌≡◌, ◌&&◌, ◌||◌, Bool, true, false, not, Some, refl}
use Rattle.std.proofs.Common.{ap, sym, cond, ◌∙◌, ◌⊎◌, inl, inr}
use Rattle.std.specs.declared.cmp.Ordering.{Ordering}
use Rattle.std.specs.declared.cmp.Ordering.TheVariants.{Less, Equal, Greater}
use Rattle.std.specs.Ordering.{is_gt, is_le, ordering_reverse}
use Rattle.vortex_types.specs.Order.{compare_values}
use Rattle.vortex_types.specs.OrderLaws.{compare_values_total}
use Rattle.vortex_types.specs.Values.{Value, null, truth, number, text, bytes, list, is_null}
use Rattle.vortex_operators.specs.declared.operators.Operator.TheVariants.{And}
use Rattle.vortex_operators.specs.declared.operators.CompareOperator.TheVariants.{Lte}
use Rattle.vortex_operators.specs.OperatorValues.{boolean_value, comparison_value}
use Rattle.vortex_operators.specs.Between.{between_value}
use Rattle.vortex_ranges.specs.Ranges.{RangeView, is_above, may_be, only}
use Rattle.vortex_ranges.specs.Truths.{truths, may_be_true, may_be_false, may_be_unknown}
use Rattle.vortex_ranges.specs.Truths.{unknown_of_both, conjunction}
use Rattle.vortex_ranges.specs.Comparing.{comparison, betweenness, may_pass}
use Rattle.vortex_ranges.specs.Reached.{HasTwoEnds, IsTold, BetweensAreReached, inclusive}
use Rattle.vortex_ranges.proofs.Above.{not_itself}
use Rattle.vortex_ranges.proofs.Tests.{first, second}

-- the range of one value
abbrev single : Value → RangeView
single v = record {
  may_fault = false;
  may_be_null = false;
  may_be_value = true;
  low = Some v;
  high = Some v;
}

only_single : (v : Value) → is_null v ≡ false → only v ≡ single v
only_single null e = cc
only_single (truth b) e = refl
only_single (number z) e = refl
only_single (text bs) e = refl
only_single (bytes bs) e = refl
only_single (list vs) e = refl

true_of : (u n s : Bool) → may_be (truths u n s) (truth true) ≡ s
true_of u true true = refl
true_of u true false = refl
true_of u false true = refl
true_of u false false = refl

false_of : (u n s : Bool) → may_be (truths u n s) (truth false) ≡ n
false_of u true true = refl
false_of u true false = refl
false_of u false true = refl
false_of u false false = refl

not_above : (o : Ordering) → is_gt o ≡ false → is_le o ≡ true
not_above Less e = refl
not_above Equal e = refl
not_above Greater e = cc

above : (o : Ordering) → is_gt o ≡ true → is_le o ≡ false
above Less e = cc
above Equal e = cc
above Greater e = refl

compared : (v w : Value) → is_null v ≡ false → is_null w ≡ false
    → comparison_value Lte v w ≡ truth (is_le (compare_values v w))
compared v w d e =
    ap (λ b. cond (b || is_null w) null (truth (is_le (compare_values v w)))) d
    ∙ ap (λ b. cond b null (truth (is_le (compare_values v w)))) e

and_of : (a b : Bool) → boolean_value And (truth a) (truth b) ≡ truth (a && b)
and_of true true = refl
and_of true false = refl
and_of false true = refl
and_of false false = refl

and_false : (a : Bool) → (a && false) ≡ false
and_false true = refl
and_false false = refl

opposite : (v w : Value) → is_above v w ≡ true → is_above w v ≡ false
opposite v w h = ap is_gt (compare_values_total.antisymm w v) ∙ by (compare_values v w) h
  where
    by : (o : Ordering) → is_gt o ≡ true → is_gt (ordering_reverse o) ≡ false
    by Greater e = refl
    by Less e = cc
    by Equal e = cc

not_after : (p q t : Bool) → (p ≡ true → q ≡ false) → (p || ((not q && t) || false)) ≡ true → q ≡ false
not_after true q t f h = f refl
not_after false false t f h = refl
not_after false true t f h = cc

either : (a b : Bool) → (a || b) ≡ true → (a ≡ true) ⊎ (b ≡ true)
either true b h = inl refl
either false b h = inr h

compare_true : (q s : RangeView) → may_be_true (comparison Lte q s) ≡ may_pass is_le q s
compare_true q s =
    true_of (q.may_be_null || s.may_be_null) (may_pass (λ o. not (is_le o)) q s) (may_pass is_le q s)

compare_false : (q s : RangeView)
    → may_be_false (comparison Lte q s) ≡ may_pass (λ o. not (is_le o)) q s
compare_false q s =
    false_of (q.may_be_null || s.may_be_null) (may_pass (λ o. not (is_le o)) q s) (may_pass is_le q s)

module _ (p q : RangeView) where
  abbrev unknown : Bool
  unknown = unknown_of_both (may_be_unknown p) (may_be_true p) (may_be_unknown q) (may_be_true q)

  both_true : may_be (conjunction p q) (truth true) ≡ (may_be_true p && may_be_true q)
  both_true = true_of unknown (may_be_false p || may_be_false q) (may_be_true p && may_be_true q)

  both_false : may_be (conjunction p q) (truth false) ≡ (may_be_false p || may_be_false q)
  both_false = false_of unknown (may_be_false p || may_be_false q) (may_be_true p && may_be_true q)

module _ (r : RangeView) (low high lower upper : Value) (ends : HasTwoEnds r low high)
    (lower_valid : is_null lower ≡ false) (upper_valid : is_null upper ≡ false)
    (in_order : is_above lower upper ≡ false)
  where
    -- r with its ends
    abbrev within : RangeView
    within = record {
      may_fault = r.may_fault;
      may_be_null = r.may_be_null;
      may_be_value = true;
      low = Some low;
      high = Some high;
    }

    is_within : r ≡ within
    is_within = λ i. record {
      may_fault = r.may_fault;
      may_be_null = r.may_be_null;
      may_be_value = ends.some i;
      low = ends.is_low i;
      high = ends.is_high i;
    }

    inside : (v : Value) → is_above low v ≡ false → is_above v high ≡ false → may_be r v ≡ true
    inside v d e = ap (λ s. may_be s v) is_within ∙ (λ i. not (d i) && not (e i))

    told : (v : Value) (a b : Bool) → is_null v ≡ false → is_le (compare_values lower v) ≡ a
        → is_le (compare_values v upper) ≡ b → between_value inclusive lower v upper ≡ truth (a && b)
    told v a b valid d e =
        (λ i. boolean_value And (compared lower v lower_valid valid i) (compared v upper valid upper_valid i))
        ∙ (λ i. boolean_value And (truth (d i)) (truth (e i)))
        ∙ and_of a b

    lower_true : may_pass is_le (single lower) within ≡ true → is_above lower high ≡ false
    lower_true h =
        not_after (is_above high lower) (is_above lower high) (not (is_above low lower)) (opposite high lower) h

    upper_true : may_pass is_le within (single upper) ≡ true → is_above low upper ≡ false
    upper_true h =
        not_after (is_above upper low) (is_above low upper) (not (is_above upper high)) (opposite upper low) h

    lower_false : may_pass (λ o. not (is_le o)) (single lower) within ≡ true → is_above lower low ≡ true
    lower_false h = h

    upper_false : may_pass (λ o. not (is_le o)) within (single upper) ≡ true → is_above high upper ≡ true
    upper_false h = h

    abbrev left : RangeView
    left = comparison Lte (single lower) within

    abbrev right : RangeView
    right = comparison Lte within (single upper)

    of_low : (a b : Bool) → is_le (compare_values lower low) ≡ a → is_le (compare_values low upper) ≡ b
        → IsTold r lower upper (a && b)
    of_low a b d e = record {
      value = low;
      valid = ends.low_valid;
      admitted = inside low (not_itself low) ends.ordered;
      is = told low a b ends.low_valid d e;
    }

    reached_true : (may_be_true left && may_be_true right) ≡ true → IsTold r lower upper true
    reached_true h = by (is_above low lower) refl
      where
        above_lower : is_above lower high ≡ false
        above_lower =
            lower_true (sym (compare_true (single lower) within) ∙ first (may_be_true left) (may_be_true right) h)

        below_upper : is_above low upper ≡ false
        below_upper =
            upper_true (sym (compare_true within (single upper)) ∙ second (may_be_true left) (may_be_true right) h)

        by : (b : Bool) → is_above low lower ≡ b → IsTold r lower upper true
        by true e =
            of_low true true (not_above (compare_values lower low) (opposite low lower e))
            (not_above (compare_values low upper) below_upper)
        by false e = record {
          value = lower;
          valid = lower_valid;
          admitted = inside lower e above_lower;
          is =
              told lower true true lower_valid (not_above (compare_values lower lower) (not_itself lower))
              (not_above (compare_values lower upper) in_order);
        }

    reached_false : (may_be_false left || may_be_false right) ≡ true → IsTold r lower upper false
    reached_false h = by (either (may_be_false left) (may_be_false right) h)
      where
        by : (may_be_false left ≡ true) ⊎ (may_be_false right ≡ true) → IsTold r lower upper false
        by (inl e) =
            of_low false (is_le (compare_values low upper))
            (above (compare_values lower low) (lower_false (sym (compare_false (single lower) within) ∙ e))) refl
        by (inr e) =
            let a = is_le (compare_values lower high) in
            let past : is_le (compare_values high upper) ≡ false =
            above (compare_values high upper) (upper_false (sym (compare_false within (single upper)) ∙ e)) in
            record {
              value = high;
              valid = ends.high_valid;
              admitted = inside high ends.ordered (not_itself high);
              is = told high a false ends.high_valid refl past ∙ ap (λ b. truth b) (and_false a);
            }

    reached : (b : Bool) → may_be (betweenness inclusive (single lower) within (single upper)) (truth b) ≡ true
        → IsTold r lower upper b
    reached true h = reached_true (sym (both_true left right) ∙ h)
    reached false h = reached_false (sym (both_false left right) ∙ h)

pub betweens_reached : BetweensAreReached
betweens_reached r low high lower upper ends d e in_order b h =
    reached r low high lower upper ends d e in_order b
    (sym (λ i. may_be (betweenness inclusive (only_single lower d i) (is_within r low high lower upper ends d e in_order i) (only_single upper e i)) (truth b))
    ∙ h)
