-- What lies inside the ends of one range lies inside those of either.
use Rattle.std.specs.Prelude.{◌≡◌, Bool, true, false, Option, Some, None, refl}
use Rattle.std.proofs.Common.{ap, cond, ◌∙◌}
use Rattle.std.specs.declared.cmp.Ordering.{Ordering}
use Rattle.std.specs.declared.cmp.Ordering.TheVariants.{Less, Equal, Greater}
use Rattle.std.specs.Ordering.{is_gt, ordering_reverse}
use Rattle.vortex_types.specs.Order.{compare_values}
use Rattle.vortex_types.specs.OrderLaws.{compare_values_total}
use Rattle.vortex_types.specs.Values.{Value}
use Rattle.vortex_ranges.specs.Ranges.{is_above, is_under, is_over}
use Rattle.vortex_ranges.proofs.Above.{chained}
use Rattle.vortex_sql_ranges.specs.Choices.{lower, higher}

turned : (o : Ordering) → is_gt o ≡ true → is_gt (ordering_reverse o) ≡ false
turned Greater e = refl
turned Less e = cc
turned Equal e = cc

-- of two values one at most is above the other
above_once : (v w : Value) → is_above v w ≡ true → is_above w v ≡ false
above_once v w e =
    ap is_gt (compare_values_total.antisymm w v) ∙ turned (compare_values v w) e

pub under_left : (low other : Option Value) (v : Value) → is_under low v ≡ false
    → is_under (lower low other) v ≡ false
under_left None other v e = refl
under_left (Some a) None v e = refl
under_left (Some a) (Some b) v e = by (is_above a b) refl
  where
    by : (c : Bool) → is_above a b ≡ c → is_above (cond c b a) v ≡ false
    by true h = chained b a v (above_once a b h) e
    by false h = e

pub under_right : (low other : Option Value) (v : Value) → is_under other v ≡ false
    → is_under (lower low other) v ≡ false
under_right None other v e = refl
under_right (Some a) None v e = refl
under_right (Some a) (Some b) v e = by (is_above a b) refl
  where
    by : (c : Bool) → is_above a b ≡ c → is_above (cond c b a) v ≡ false
    by true h = e
    by false h = chained a b v h e

pub over_left : (high other : Option Value) (v : Value) → is_over high v ≡ false
    → is_over (higher high other) v ≡ false
over_left None other v e = refl
over_left (Some a) None v e = refl
over_left (Some a) (Some b) v e = by (is_above a b) refl
  where
    by : (c : Bool) → is_above a b ≡ c → is_above v (cond c a b) ≡ false
    by true h = e
    by false h = chained v a b e h

pub over_right : (high other : Option Value) (v : Value) → is_over other v ≡ false
    → is_over (higher high other) v ≡ false
over_right None other v e = refl
over_right (Some a) None v e = refl
over_right (Some a) (Some b) v e = by (is_above a b) refl
  where
    by : (c : Bool) → is_above a b ≡ c → is_above v (cond c a b) ≡ false
    by true h = chained v b a e (above_once a b h)
    by false h = e
