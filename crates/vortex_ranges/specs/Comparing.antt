-- Ranges of comparisons.
use Rattle.std.specs.Prelude.{◌&&◌, ◌||◌, Bool, true, false, not, Option, Some}
use Rattle.std.specs.declared.cmp.Ordering.{Ordering}
use Rattle.std.specs.declared.cmp.Ordering.TheVariants.{Less, Equal, Greater}
use Rattle.vortex_types.specs.Values.{Value}
use Rattle.vortex_operators.specs.declared.between.BetweenOptions.{BetweenOptions}
use Rattle.vortex_operators.specs.declared.operators.CompareOperator.{CompareOperator}
use Rattle.vortex_operators.specs.Between.{bound_operator}
use Rattle.vortex_operators.specs.OperatorValues.{holds}
use Rattle.vortex_ranges.specs.Ranges.{RangeView, is_above}
use Rattle.vortex_ranges.specs.Truths.{truths, conjunction}

-- a low end lies above a high one
abbrev pub are_apart : Option Value → Option Value → Bool
are_apart (Some low) (Some high) = is_above low high
are_apart low high = false

-- a low end lies below a high one, and not on it
abbrev pub leave_room : Option Value → Option Value → Bool
leave_room (Some low) (Some high) = is_above high low
leave_room low high = true

-- two values may have that order
abbrev pub may_compare : RangeView → RangeView → Ordering → Bool
may_compare r s Less = leave_room r.low s.high
may_compare r s Equal = not (are_apart r.low s.high) && not (are_apart s.low r.high)
may_compare r s Greater = leave_room s.low r.high

-- two values may have an order that passes the test
abbrev pub may_pass : (Ordering → Bool) → RangeView → RangeView → Bool
may_pass test r s =
    (r.may_be_value && s.may_be_value)
    && ((test Less && may_compare r s Less)
    || ((test Equal && may_compare r s Equal) || (test Greater && may_compare r s Greater)))

abbrev pub comparison : CompareOperator → RangeView → RangeView → RangeView
comparison op r s =
    truths (r.may_be_null || s.may_be_null) (may_pass (λ o. not (holds op o)) r s)
    (may_pass (holds op) r s)

-- lower op x and x op upper
abbrev pub betweenness : BetweenOptions → RangeView → RangeView → RangeView → RangeView
betweenness options lower r upper =
    conjunction (comparison (bound_operator options.lower_strict) lower r)
    (comparison (bound_operator options.upper_strict) r upper)
