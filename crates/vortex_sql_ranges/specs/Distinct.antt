-- The range of IS DISTINCT FROM.
use Rattle.std.specs.Prelude.{◌&&◌, ◌||◌, List, Bool, false}
use Rattle.vortex_operators.specs.declared.operators.CompareOperator.TheVariants.{Eq}
use Rattle.vortex_ranges.specs.Ranges.{RangeView}
use Rattle.vortex_ranges.specs.Truths.{truths, may_be_true, may_be_false}
use Rattle.vortex_ranges.specs.Comparing.{comparison}
use Rattle.vortex_ranges.specs.ShippedCalls.{of_two}

-- both are null, or equal values
abbrev pub may_be_same : RangeView → RangeView → Bool
may_be_same r s = (r.may_be_null && s.may_be_null) || may_be_true (comparison Eq r s)

-- one is null, or they are other values
abbrev pub may_differ : RangeView → RangeView → Bool
may_differ r s =
    (r.may_be_null && s.may_be_value)
    || ((r.may_be_value && s.may_be_null) || may_be_false (comparison Eq r s))

abbrev pub distinctness : RangeView → RangeView → RangeView
distinctness r s = truths false (may_be_same r s) (may_differ r s)

abbrev pub distinct_range : List RangeView → RangeView
distinct_range rs = of_two distinctness rs
