-- A range that leaves one outcome admits no other.
use Rattle.std.specs.Prelude.{◌≡◌, ◌||◌, Bool, true, false, Option, Some, None, refl}
use Rattle.std.proofs.Common.{sym, ap, ◌∙◌, cond}
use Rattle.std.specs.Ordering.{is_gt}
use Rattle.std.specs.declared.cmp.Ordering.{Ordering}
use Rattle.std.specs.declared.cmp.Ordering.TheVariants.{Less, Equal, Greater}
use Rattle.vortex_types.specs.Values.{Value, null}
use Rattle.vortex_types.specs.Order.{compare_values}
use Rattle.vortex_types.specs.OrderLaws.{equals_are_same}
use Rattle.vortex_interface.specs.Outcomes.{Outcome, gives, faults}
use Rattle.vortex_ranges.specs.Ranges.{RangeView, is_above, is_inside}
use Rattle.vortex_ranges.specs.Calls.{AdmitsOutcome}
use Rattle.vortex_ranges.proofs.Above.{chained, less_is_below, not_under, not_over}
use Rattle.vortex_ranges.proofs.Above.{has_value, lies_inside}
use Rattle.vortex_pruning.specs.Residuals.{sole_between, sole_value}

-- two values of which neither is above the other are one
pub one_value : (v w : Value) → is_above v w ≡ false → is_above w v ≡ false → v ≡ w
one_value v w d e = equals_are_same.same v w (by (compare_values v w) refl)
  where
    by : (o : Ordering) → compare_values v w ≡ o → compare_values v w ≡ Equal
    by Less h = let is : is_above w v ≡ true = less_is_below v w h in cc
    by Equal h = h
    by Greater h = let is : is_above v w ≡ true = ap is_gt h in cc

between_one : (low high : Option Value) (v w : Value) → sole_between low high ≡ Some v
    → is_inside low high w ≡ true → w ≡ v
between_one None high v w e h = cc
between_one (Some low) None v w e h = cc
between_one (Some low) (Some high) v w e h = by (is_above low high) (is_above high low) refl refl e
  where
    by : (a b : Bool) → is_above low high ≡ a → is_above high low ≡ b
        → cond (a || b) None (Some low) ≡ Some v → w ≡ v
    by true b p q g = cc
    by false true p q g = cc
    by false false p q g =
        let is : low ≡ v = cc in
        let under : is_above low w ≡ false = not_under (Some low) (Some high) w h in
        let over : is_above w high ≡ false = not_over (Some low) (Some high) w h in
        one_value w low (chained w high low over q) under ∙ is

pub sole_outcome : (r : RangeView) (v : Value) (o : Outcome) → sole_value r ≡ Some v
    → AdmitsOutcome r o → o ≡ gives v
sole_outcome r v o e d = by r.may_fault r.may_be_value r.may_be_null o refl refl refl e d
  where
    by : (f a n : Bool) (o : Outcome) → r.may_fault ≡ f → r.may_be_value ≡ a → r.may_be_null ≡ n
        → cond f None (cond a (cond n None (sole_between r.low r.high)) (cond n (Some null) None))
        ≡ Some v
        → AdmitsOutcome r o → o ≡ gives v
    by true a n o p q s g d = cc
    by false true true o p q s g d = cc
    by false false false o p q s g d = cc
    by false true false (faults x) p q s g d = let never : false ≡ true = sym p ∙ d in cc
    by false true false (gives null) p q s g d = let never : false ≡ true = sym s ∙ d in cc
    by false true false (gives w) p q s g d =
        ap gives (between_one r.low r.high v w g (lies_inside r w d))
    by false false true (faults x) p q s g d = let never : false ≡ true = sym p ∙ d in cc
    by false false true (gives null) p q s g d = let is : null ≡ v = cc in ap gives is
    by false false true (gives w) p q s g d =
        let never : false ≡ true = sym q ∙ has_value r w d in cc
