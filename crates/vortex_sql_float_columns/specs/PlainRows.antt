-- The rows that the processor's arithmetic decides by itself: of two finite floats, and no division
-- by zero. There a fault shows in the result, which is infinite, or zero where no operand is why.
use Rattle.std.specs.Prelude.{Bool, false, not, ◌&&◌, ◌||◌}
use Rattle.std.specs.Float.{Float, float_is_finite, float_is_infinite}
use Rattle.vortex_sql_floats.specs.declared.floats.FloatOperator.{FloatOperator}
use Rattle.vortex_sql_floats.specs.declared.floats.FloatOperator.TheVariants.{Multiply, Divide}
use Rattle.vortex_sql_floats.specs.FloatArithmetic.{is_zero}

-- the operator has a result for a finite left side and this right one
abbrev pub is_right_side : FloatOperator → Float → Bool
is_right_side Divide y = float_is_finite y && not (is_zero y)
is_right_side op y = float_is_finite y

abbrev pub is_plain : FloatOperator → Float → Float → Bool
is_plain op x y = float_is_finite x && is_right_side op y

-- a result of zero was rounded to zero
abbrev pub vanishes : FloatOperator → Float → Float → Bool
vanishes Multiply x y = not (is_zero x || is_zero y)
vanishes Divide x y = not (is_zero x)
vanishes op x y = false

-- whether the row is not plain, or faults; of the result z
abbrev pub may_fault : FloatOperator → Float → Float → Float → Bool
may_fault op x y z =
    not (is_plain op x y) || (float_is_infinite z || (is_zero z && vanishes op x y))
