-- PostgreSQL 15's functions of one float of 64 bits (`dround`, `dfloor`, `dceil`, `dtrunc`, `dsqrt`,
-- `float8abs`, `dsign`), but that `round` takes halves away from zero, and that the sign of a NaN is a
-- NaN, both as of its decimals.
use Rattle.std.specs.Prelude.{Bool, false, if◌then◌else◌}
use Rattle.std.specs.Float.{Float, binary64, float_zero, float_round, floor, ceil, trunc}
use Rattle.std.specs.Float.{float_with_sign, float_signum}
use lib.Ieee.{sqrt, eq, lt}
use Rattle.vortex_sql_float_functions.specs.declared.functions.FloatFunction.{FloatFunction}
use Rattle.vortex_sql_float_functions.specs.declared.functions.FloatFunction.TheVariants as function

-- zero has none
abbrev pub sign : Float → Float
sign x = if eq x float_zero then float_zero else float_signum x

abbrev pub applied : FloatFunction → Float → Float
applied function.Round x = float_round binary64 x
applied function.Floor x = floor binary64 x
applied function.Ceil x = ceil binary64 x
applied function.Trunc x = trunc binary64 x
applied function.Sqrt x = sqrt binary64 x
applied function.Abs x = float_with_sign false x
applied function.Sign x = sign x

-- neither -0 nor a NaN is below 0
abbrev pub lacks_root : FloatFunction → Float → Bool
lacks_root function.Sqrt x = lt x float_zero
lacks_root f x = false
