-- The order of values, by which is not above which; and what lies inside ends.
use Rattle.std.specs.Prelude.{◌≡◌, true, false, not, Option, Some}
use Rattle.std.proofs.Common.{ap, ◌∙◌}
use Rattle.std.specs.declared.cmp.Ordering.TheVariants.{Less, Equal}
use Rattle.std.specs.Ordering.{is_gt, ordering_reverse}
use Rattle.std.proofs.lemmas.Cmp.{upto}
use Rattle.vortex_types.specs.Values.{Value}
use Rattle.vortex_types.specs.Order.{compare_values}
use Rattle.vortex_types.specs.OrderLaws.{compare_values_total, equals_are_same}
use Rattle.vortex_ranges.specs.Ranges.{RangeView, is_above, is_under, is_over, is_inside, may_be}
use Rattle.vortex_ranges.proofs.Tests.{both, first, second, negated, refuted}

pub chained : (v w x : Value) → is_above v w ≡ false → is_above w x ≡ false
    → is_above v x ≡ false
chained v w x d e = upto compare_values_total v w x d e

pub not_itself : (v : Value) → is_above v v ≡ false
not_itself v = ap is_gt (equals_are_same.equal v)

pub less_is_below : (v w : Value) → compare_values v w ≡ Less → is_above w v ≡ true
less_is_below v w e =
    ap is_gt (compare_values_total.antisymm w v ∙ ap ordering_reverse e)

pub equal_is_not_below : (v w : Value) → compare_values v w ≡ Equal → is_above w v ≡ false
equal_is_not_below v w e =
    ap is_gt (compare_values_total.antisymm w v ∙ ap ordering_reverse e)

pub inside_itself : (v : Value) → is_inside (Some v) (Some v) v ≡ true
inside_itself v =
    both (not (is_above v v)) (not (is_above v v)) (negated (is_above v v) (not_itself v))
    (negated (is_above v v) (not_itself v))

module _ (low high : Option Value) (v : Value) where
  pub not_under : is_inside low high v ≡ true → is_under low v ≡ false
  not_under e =
      refuted (is_under low v) (first (not (is_under low v)) (not (is_over high v)) e)

  pub not_over : is_inside low high v ≡ true → is_over high v ≡ false
  not_over e =
      refuted (is_over high v) (second (not (is_under low v)) (not (is_over high v)) e)

  pub inside : is_under low v ≡ false → is_over high v ≡ false → is_inside low high v ≡ true
  inside d e =
      both (not (is_under low v)) (not (is_over high v)) (negated (is_under low v) d)
      (negated (is_over high v) e)

module _ (r : RangeView) (v : Value) where
  pub has_value : may_be r v ≡ true → r.may_be_value ≡ true
  has_value e = first r.may_be_value (is_inside r.low r.high v) e

  pub lies_inside : may_be r v ≡ true → is_inside r.low r.high v ≡ true
  lies_inside e = second r.may_be_value (is_inside r.low r.high v) e
