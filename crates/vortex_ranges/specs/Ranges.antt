-- What is known of the results of a function in every row of a group.
use Rattle.std.specs.Prelude.{◌≡◌, ◌&&◌, Bool, true, false, not, Option, Some, None}
use Rattle.std.specs.Ordering.{is_gt}
use Rattle.vortex_types.specs.Values.{Value, null}
use Rattle.vortex_types.specs.Order.{compare_values}

-- whether a row may fault, may be null, and may be another value; and ends between which that other
-- value lies. An end need not be the value of a row; no end is none.
pub record RangeView : Type 0 where
  pub may_fault : Bool
  pub may_be_null : Bool
  pub may_be_value : Bool
  pub low : Option Value
  pub high : Option Value

-- the first is the greater
abbrev pub is_above : Value → Value → Bool
is_above v w = is_gt (compare_values v w)

-- a value that lies outside an end
abbrev pub is_under : Option Value → Value → Bool
is_under None v = false
is_under (Some low) v = is_above low v

abbrev pub is_over : Option Value → Value → Bool
is_over None v = false
is_over (Some high) v = is_above v high

abbrev pub is_inside : Option Value → Option Value → Value → Bool
is_inside low high v = not (is_under low v) && not (is_over high v)

-- a row may have that value, which is not null
abbrev pub may_be : RangeView → Value → Bool
may_be r v = r.may_be_value && is_inside r.low r.high v

abbrev pub admits : RangeView → Value → Bool
admits r null = r.may_be_null
admits r v = may_be r v

-- the range does not exclude the value
abbrev pub Admits : RangeView → Value → Type 0
Admits r v = admits r v ≡ true

-- nor the result; none is a fault
abbrev pub AdmitsResult : RangeView → Option Value → Type 0
AdmitsResult r None = r.may_fault ≡ true
AdmitsResult r (Some v) = Admits r v

-- nothing is excluded
abbrev pub anything : RangeView
anything = record {
  may_fault = true;
  may_be_null = true;
  may_be_value = true;
  low = None;
  high = None;
}

-- only null
abbrev pub only_null : RangeView
only_null = record {
  may_fault = false;
  may_be_null = true;
  may_be_value = false;
  low = None;
  high = None;
}

-- only that value
abbrev pub only : Value → RangeView
only null = only_null
only v = record {
  may_fault = false;
  may_be_null = false;
  may_be_value = true;
  low = Some v;
  high = Some v;
}
