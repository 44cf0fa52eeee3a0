-- The ranges of comparisons admit their values.
use Rattle.std.specs.Prelude.{◌≡◌, ◌&&◌, ◌||◌, Bool, true, false, not, Option, Some, None, refl}
use Rattle.std.proofs.Common.{ap}
use Rattle.std.specs.declared.cmp.Ordering.{Ordering}
use Rattle.std.specs.declared.cmp.Ordering.TheVariants.{Less, Equal, Greater}
use Rattle.std.specs.Ordering.{is_gt}
use Rattle.vortex_types.specs.Values.{Value, null, truth}
use Rattle.vortex_types.specs.Order.{compare_values}
use Rattle.vortex_operators.specs.declared.between.BetweenOptions.{BetweenOptions}
use Rattle.vortex_operators.specs.declared.operators.CompareOperator.{CompareOperator}
use Rattle.vortex_operators.specs.Between.{bound_operator, between_value}
use Rattle.vortex_operators.specs.OperatorValues.{holds, comparison_value}
use Rattle.vortex_ranges.specs.Ranges.{RangeView, Admits, is_above, is_under, is_over}
use Rattle.vortex_ranges.specs.Ranges.{may_be}
use Rattle.vortex_ranges.specs.Comparing.{are_apart, leave_room, may_compare, may_pass, comparison}
use Rattle.vortex_ranges.specs.Comparing.{betweenness}
use Rattle.vortex_ranges.specs.Sound.{AdmitComparisons}
use Rattle.vortex_ranges.proofs.Tests.{both, on_left, on_right, negated, either_way}
use Rattle.vortex_ranges.proofs.Above.{chained, less_is_below, equal_is_not_below, not_under}
use Rattle.vortex_ranges.proofs.Above.{not_over, has_value, lies_inside}
use Rattle.vortex_ranges.proofs.KleeneTables.{truths-admit, and-admits}

-- a value above a low end and below another, which is below a high end
room : (low high : Option Value) (v w : Value) → is_under low v ≡ false → is_over high w ≡ false
    → is_above w v ≡ true → leave_room low high ≡ true
room None high v w d e f = refl
room (Some low) None v w d e f = refl
room (Some low) (Some high) v w d e f =
    either_way (is_above high low) (λ y. y)
    (λ n.
    let under : is_above high v ≡ false = chained high low v n d in
    let never : is_above w v ≡ false = chained w high v e under in
    cc)

-- or no higher than the other
together : (low high : Option Value) (v w : Value) → is_under low v ≡ false
    → is_over high w ≡ false → is_above v w ≡ false → not (are_apart low high) ≡ true
together None high v w d e f = refl
together (Some low) None v w d e f = refl
together (Some low) (Some high) v w d e f =
    negated (is_above low high) (chained low v high d (chained v w high f e))

module _ (r s : RangeView) (v w : Value) (p : may_be r v ≡ true) (q : may_be s w ≡ true) where
  above_left : is_under r.low v ≡ false
  above_left = not_under r.low r.high v (lies_inside r v p)

  below_left : is_over r.high v ≡ false
  below_left = not_over r.low r.high v (lies_inside r v p)

  above_right : is_under s.low w ≡ false
  above_right = not_under s.low s.high w (lies_inside s w q)

  below_right : is_over s.high w ≡ false
  below_right = not_over s.low s.high w (lies_inside s w q)

  compare_so : (o : Ordering) → compare_values v w ≡ o → may_compare r s o ≡ true
  compare_so Less e = room r.low s.high v w above_left below_right (less_is_below v w e)
  compare_so Equal e =
      both (not (are_apart r.low s.high)) (not (are_apart s.low r.high))
      (together r.low s.high v w above_left below_right (ap is_gt e))
      (together s.low r.high w v above_right below_left (equal_is_not_below v w e))
  compare_so Greater e = room s.low r.high w v above_right below_left (ap is_gt e)

  both_values : (r.may_be_value && s.may_be_value) ≡ true
  both_values = both r.may_be_value s.may_be_value (has_value r v p) (has_value s w q)

passes : (test : Ordering → Bool) (r s : RangeView) (o : Ordering)
    → (r.may_be_value && s.may_be_value) ≡ true → test o ≡ true → may_compare r s o ≡ true
    → may_pass test r s ≡ true
passes test r s Less b d e =
    both (r.may_be_value && s.may_be_value) _ b
    (on_left (test Less && may_compare r s Less) _ (both (test Less) (may_compare r s Less) d e))
passes test r s Equal b d e =
    both (r.may_be_value && s.may_be_value) _ b
    (on_right (test Less && may_compare r s Less) _
    (on_left (test Equal && may_compare r s Equal) _
    (both (test Equal) (may_compare r s Equal) d e)))
passes test r s Greater b d e =
    both (r.may_be_value && s.may_be_value) _ b
    (on_right (test Less && may_compare r s Less) _
    (on_right (test Equal && may_compare r s Equal) _
    (both (test Greater) (may_compare r s Greater) d e)))

module _ (op : CompareOperator) (r s : RangeView) where
  of_values : (v w : Value) → may_be r v ≡ true → may_be s w ≡ true
      → Admits (comparison op r s) (truth (holds op (compare_values v w)))
  of_values v w p q = by (holds op (compare_values v w)) refl
    where
      order : may_compare r s (compare_values v w) ≡ true
      order = compare_so r s v w p q (compare_values v w) refl

      by : (b : Bool) → holds op (compare_values v w) ≡ b
          → Admits (comparison op r s) (truth b)
      by true h =
          truths-admit (r.may_be_null || s.may_be_null) (may_pass (λ o. not (holds op o)) r s)
          (may_pass (holds op) r s) (Some true)
          (passes (holds op) r s (compare_values v w) (both_values r s v w p q) h order)
      by false h =
          truths-admit (r.may_be_null || s.may_be_null) (may_pass (λ o. not (holds op o)) r s)
          (may_pass (holds op) r s) (Some false)
          (passes (λ o. not (holds op o)) r s (compare_values v w) (both_values r s v w p q)
          (negated (holds op (compare_values v w)) h) order)

  pub comparison-admits : (v w : Value) → Admits r v → Admits s w
      → Admits (comparison op r s) (comparison_value op v w)
  comparison-admits null w p q = on_left r.may_be_null s.may_be_null p
  comparison-admits v null p q = by v p
    where
      by : (v : Value) → Admits r v → Admits (comparison op r s) (comparison_value op v null)
      by null p = on_left r.may_be_null s.may_be_null p
      by v p = on_right r.may_be_null s.may_be_null q
  comparison-admits v w p q = of_values v w p q

between-admits : (options : BetweenOptions) (q r s : RangeView) (u v w : Value)
    → Admits q u → Admits r v → Admits s w
    → Admits (betweenness options q r s) (between_value options u v w)
between-admits options q r s u v w d e f =
    and-admits (comparison (bound_operator options.lower_strict) q r)
    (comparison (bound_operator options.upper_strict) r s)
    (comparison_value (bound_operator options.lower_strict) u v)
    (comparison_value (bound_operator options.upper_strict) v w)
    (comparison-admits (bound_operator options.lower_strict) q r u v d e)
    (comparison-admits (bound_operator options.upper_strict) r s v w e f)

pub comparisons_admitted : AdmitComparisons
comparisons_admitted = record { compared = comparison-admits; between = between-admits }
