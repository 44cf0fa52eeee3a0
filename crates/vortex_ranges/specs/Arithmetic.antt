-- Ranges of arithmetic, by the ends of the operands.
use Rattle.std.specs.Prelude.{◌&&◌, ◌||◌, ◌+ℤ◌, ◌-ℤ◌, ◌*ℤ◌, ℤ, pos, negsuc, int_lt, Bool, true}
use Rattle.std.specs.Prelude.{Option, Some, None, if◌then◌else◌, int_div}
use Rattle.std.specs.Int.{int_min, int_max}
use Rattle.vortex_checked.specs.Exact.{is_outside}
use Rattle.vortex_errors.specs.declared.error.NumericOperator.{NumericOperator}
use Rattle.vortex_errors.specs.declared.error.NumericOperator.TheVariants.{Add, Sub, Mul, Div}
use Rattle.vortex_types.specs.declared.dtype.PType.{PType}
use Rattle.vortex_types.specs.LogicalTypes.{LogicalType, integer_type}
use Rattle.vortex_types.specs.Typing.{least_of, greatest_of}
use Rattle.vortex_types.specs.Values.{Value, number}
use Rattle.vortex_ranges.specs.Ranges.{RangeView}
use Rattle.vortex_ranges.specs.TypeRanges.{of_type}

-- a number of 64 bits, so that sums and products of two have 128
abbrev pub narrow : ℤ → Option ℤ
narrow z = if is_outside (negsuc 9223372036854775807) (pos 9223372036854775807) z then None else Some z

abbrev pub both_of : Option ℤ → Option ℤ → Option (ℤ × ℤ)
both_of (Some a) (Some b) = Some (a, b)
both_of a b = None

-- the ends, where both are such numbers
abbrev pub number_ends : Option Value → Option Value → Option (ℤ × ℤ)
number_ends (Some (number low)) (Some (number high)) = both_of (narrow low) (narrow high)
number_ends low high = None

-- both ends of a divisor lie on one side of zero
abbrev pub excludes_zero : ℤ × ℤ → Bool
excludes_zero q =
    (int_lt (pos 0) q.0 && int_lt (pos 0) q.1) || (int_lt q.0 (pos 0) && int_lt q.1 (pos 0))

-- by operands between these ends there is a result: no divisor is zero
abbrev pub has_results : NumericOperator → ℤ × ℤ → Bool
has_results Div q = excludes_zero q
has_results o q = true

-- the ends of the exact results
abbrev pub low_result : NumericOperator → ℤ × ℤ → ℤ × ℤ → ℤ
low_result Add p q = p.0 +ℤ q.0
low_result Sub p q = p.0 -ℤ q.1
low_result Mul p q =
    int_min (int_min (p.0 *ℤ q.0) (p.0 *ℤ q.1)) (int_min (p.1 *ℤ q.0) (p.1 *ℤ q.1))
low_result Div p q =
    int_min (int_min (int_div p.0 q.0) (int_div p.0 q.1))
    (int_min (int_div p.1 q.0) (int_div p.1 q.1))

abbrev pub high_result : NumericOperator → ℤ × ℤ → ℤ × ℤ → ℤ
high_result Add p q = p.1 +ℤ q.1
high_result Sub p q = p.1 -ℤ q.0
high_result Mul p q =
    int_max (int_max (p.0 *ℤ q.0) (p.0 *ℤ q.1)) (int_max (p.1 *ℤ q.0) (p.1 *ℤ q.1))
high_result Div p q =
    int_max (int_max (int_div p.0 q.0) (int_div p.0 q.1))
    (int_max (int_div p.1 q.0) (int_div p.1 q.1))

-- numbers of a type between two ends; a result past the ends of the type is a fault
abbrev pub numbers : PType → Bool → Bool → ℤ → ℤ → RangeView
numbers p null value low high = record {
  may_fault = value && (int_lt low (least_of p) || int_lt (greatest_of p) high);
  may_be_null = null;
  may_be_value = value;
  low = Some (number (int_max (least_of p) low));
  high = Some (number (int_min (greatest_of p) high));
}

-- any number of the type, or a fault
abbrev pub any_number : PType → Bool → Bool → RangeView
any_number p null value = record {
  may_fault = value;
  may_be_null = null;
  may_be_value = value;
  low = Some (number (least_of p));
  high = Some (number (greatest_of p));
}

abbrev pub results : NumericOperator → PType → Bool → Bool → Option (ℤ × ℤ) → Option (ℤ × ℤ)
    → RangeView
results o p null value (Some a) (Some b) =
    if has_results o b then numbers p null value (low_result o a b) (high_result o a b)
    else any_number p null value
results o p null value a b = any_number p null value

abbrev pub integer_range : NumericOperator → PType → RangeView → RangeView → RangeView
integer_range o p r s =
    results o p (r.may_be_null || s.may_be_null) (r.may_be_value && s.may_be_value)
    (number_ends r.low r.high) (number_ends s.low s.high)

-- arithmetic whose result has that type
abbrev pub arithmetic_range : NumericOperator → LogicalType → RangeView → RangeView → RangeView
arithmetic_range o (integer_type p n) r s = integer_range o p r s
arithmetic_range o t r s = of_type true t
