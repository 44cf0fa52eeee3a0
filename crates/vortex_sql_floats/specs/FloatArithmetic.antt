-- Arithmetic of two floats of 64 bits: IEEE 754's result, rounded once, and the faults of
-- PostgreSQL 15 (`float8_pl`, `float8_mi`, `float8_mul`, `float8_div`), underflow included. An
-- infinity or a NaN among the operands makes no fault, but an infinity over zero is one.
use Rattle.std.specs.Prelude.{Bool, false, not, ◌&&◌, ◌||◌, Option, Some, None, is_nan}
use Rattle.std.specs.Prelude.{if◌then◌else◌}
use Rattle.std.specs.Float.{Float, binary64, float_zero, float_is_infinite}
use lib.Ieee.{add, sub, mul, div, eq}
use Rattle.vortex_sql_rows.specs.declared.faults.RowFault.{RowFault}
use Rattle.vortex_sql_rows.specs.declared.faults.RowFault.TheVariants as fault
use Rattle.vortex_sql_floats.specs.declared.floats.FloatOperator.{FloatOperator}
use Rattle.vortex_sql_floats.specs.declared.floats.FloatOperator.TheVariants.{Add, Subtract}
use Rattle.vortex_sql_floats.specs.declared.floats.FloatOperator.TheVariants.{Multiply, Divide}

abbrev pub applied : FloatOperator → Float → Float → Float
applied Add x y = add binary64 x y
applied Subtract x y = sub binary64 x y
applied Multiply x y = mul binary64 x y
applied Divide x y = div binary64 x y

-- 0 or -0
abbrev pub is_zero : Float → Bool
is_zero x = eq x float_zero

-- a NaN over zero is a NaN; all else over zero faults, infinities too
abbrev pub divides_by_zero : FloatOperator → Float → Float → Bool
divides_by_zero Divide x y = is_zero y && not (is_nan x)
divides_by_zero op x y = false

-- infinite, where no operand is
abbrev pub overflows : FloatOperator → Float → Float → Bool
overflows op x y =
    float_is_infinite (applied op x y) && not (float_is_infinite x || float_is_infinite y)

-- zero, where no operand is why: a product of zero has a zero factor, and a quotient of zero has a
-- dividend of zero or an infinite divisor. A sum or a difference of zero is exact.
abbrev pub underflows : FloatOperator → Float → Float → Bool
underflows Multiply x y = is_zero (applied Multiply x y) && not (is_zero x || is_zero y)
underflows Divide x y = is_zero (applied Divide x y) && not (is_zero x || float_is_infinite y)
underflows op x y = false

abbrev pub fault_by : FloatOperator → Float → Float → Option RowFault
fault_by op x y =
    if divides_by_zero op x y then Some fault.ZeroDivisor
    else if overflows op x y then Some fault.FloatOverflow
    else if underflows op x y then Some fault.FloatUnderflow
    else None
