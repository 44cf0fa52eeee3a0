-- Ranges of truth values: Kleene's tables and the null tests.
use Rattle.std.specs.Prelude.{◌&&◌, ◌||◌, Bool, true, false, not, Option, Some}
use Rattle.vortex_types.specs.Values.{Value, truth}
use Rattle.vortex_ranges.specs.Ranges.{RangeView, is_above, may_be}

-- null, false and true, each if it may be
abbrev pub truths : Bool → Bool → Bool → RangeView
truths unknown untrue sure = record {
  may_fault = false;
  may_be_null = unknown;
  may_be_value = untrue || sure;
  low = Some (truth (not untrue));
  high = Some (truth sure);
}

-- ends between which some value is no truth value
abbrev pub reach_past_truths : Option Value → Option Value → Bool
reach_past_truths (Some low) (Some high) = is_above (truth false) low || is_above high (truth true)
reach_past_truths low high = true

-- null, or no truth value: both are unknown to Kleene's tables
abbrev pub may_be_unknown : RangeView → Bool
may_be_unknown r = r.may_be_null || (r.may_be_value && reach_past_truths r.low r.high)

abbrev pub may_be_true : RangeView → Bool
may_be_true r = may_be r (truth true)

abbrev pub may_be_false : RangeView → Bool
may_be_false r = may_be r (truth false)

abbrev pub negation : RangeView → RangeView
negation r = truths (may_be_unknown r) (may_be_true r) (may_be_false r)

-- unknown on one side, and unknown or neutral, which decides nothing, on the other
abbrev pub unknown_of_both : Bool → Bool → Bool → Bool → Bool
unknown_of_both unknown neutral other_unknown other_neutral =
    (unknown && (other_unknown || other_neutral)) || (neutral && other_unknown)

abbrev pub conjunction : RangeView → RangeView → RangeView
conjunction r s =
    truths
    (unknown_of_both (may_be_unknown r) (may_be_true r) (may_be_unknown s) (may_be_true s))
    (may_be_false r || may_be_false s)
    (may_be_true r && may_be_true s)

abbrev pub disjunction : RangeView → RangeView → RangeView
disjunction r s =
    truths
    (unknown_of_both (may_be_unknown r) (may_be_false r) (may_be_unknown s) (may_be_false s))
    (may_be_false r && may_be_false s)
    (may_be_true r || may_be_true s)

-- whether a value is null, or, if negated, whether it is not
abbrev pub null_test : Bool → RangeView → RangeView
null_test false r = truths false r.may_be_value r.may_be_null
null_test true r = truths false r.may_be_null r.may_be_value
