-- The range of one of several values: of the first that is not null.
use Rattle.std.specs.Prelude.{◌||◌, List, [], ◌∷◌, true, false, Option, Some, None}
use Rattle.std.specs.Prelude.{if◌then◌else◌}
use Rattle.vortex_types.specs.Values.{Value}
use Rattle.vortex_ranges.specs.Ranges.{RangeView, is_above}

-- the lower of two low ends, and the higher of two high ones; none where one is not known
abbrev pub lower : Option Value → Option Value → Option Value
lower (Some v) (Some w) = Some (if is_above v w then w else v)
lower low other = None

abbrev pub higher : Option Value → Option Value → Option Value
higher (Some v) (Some w) = Some (if is_above v w then v else w)
higher high other = None

-- a value of the one or of the other
abbrev pub either_value : RangeView → RangeView → RangeView
either_value r s = record {
  may_fault = r.may_fault || s.may_fault;
  may_be_null = r.may_be_null || s.may_be_null;
  may_be_value = true;
  low = lower r.low s.low;
  high = higher r.high s.high;
}

abbrev pub with_null : RangeView → RangeView → RangeView
with_null r s = record {
  may_fault = r.may_fault || s.may_fault;
  may_be_null = r.may_be_null || s.may_be_null;
  may_be_value = r.may_be_value;
  low = r.low;
  high = r.high;
}

-- what the one admits, and what the other does
abbrev pub either_of : RangeView → RangeView → RangeView
either_of r s =
    if r.may_be_value then if s.may_be_value then either_value r s else with_null r s
    else with_null s r

-- the same range without null
abbrev pub without_null : RangeView → RangeView
without_null r = record {
  may_fault = r.may_fault;
  may_be_null = false;
  may_be_value = r.may_be_value;
  low = r.low;
  high = r.high;
}

-- no outcome
abbrev pub nothing : RangeView
nothing = record {
  may_fault = false;
  may_be_null = false;
  may_be_value = false;
  low = None;
  high = None;
}

-- null alone is left where each may be null
abbrev pub or_null : RangeView → RangeView
or_null r = record {
  may_fault = r.may_fault;
  may_be_null = true;
  may_be_value = r.may_be_value;
  low = r.low;
  high = r.high;
}

-- one of those so far, or the first of these that is not null
abbrev pub coalesced_from : RangeView → List RangeView → RangeView
coalesced_from found [] = or_null found
coalesced_from found (r ∷ rs) =
    if r.may_be_null then coalesced_from (either_of found (without_null r)) rs
    else either_of found r

abbrev pub coalesce_range : List RangeView → RangeView
coalesce_range rs = coalesced_from nothing rs
