-- Which function rounds decimals, and what becomes of their digits.
use Rattle.std.specs.Prelude.{ℕ, ◌+◌, ◌-◌, Bool, Option, Some, None, is_some, nat_le}
use Rattle.std.specs.Prelude.{if◌then◌else◌}
use Rattle.std.specs.Prelude.{option_and_then}
use Rattle.std.specs.Option.{option_map}
use Rattle.vortex_logical.specs.Digits.{Digits, digits_of}
use Rattle.vortex_sql_float_functions.specs.declared.functions.FloatFunction.{FloatFunction}
use Rattle.vortex_sql_float_functions.specs.declared.functions.FloatFunction.TheVariants as float
use Rattle.vortex_sql_kind_texts.specs.declared.decimals.Rounding.{Rounding}
use Rattle.vortex_sql_kind_texts.specs.declared.decimals.Rounding.TheVariants as by
use Rattle.vortex_sql_float_functions.specs.declared.places.FloatPlaces.{FloatPlaces}
use Rattle.vortex_sql_float_functions.specs.declared.places.FloatPlaces.TheVariants as places
use Rattle.vortex_standard.specs.declared.standard.Standard.TheVariants as standard
use Rattle.vortex_logical_casts.specs.declared.steps.Step.{Step}
use Rattle.vortex_logical_casts.specs.declared.steps.More.TheVariants as more
use Rattle.vortex_logical_casts.specs.declared.roundings.Rounded.{Rounded}
use Rattle.vortex_logical_casts.specs.Casts.{rounding}

abbrev pub rounding_of : FloatFunction → Option Rounding
rounding_of float.Round = Some by.Half
rounding_of float.Floor = Some by.Floor
rounding_of float.Ceil = Some by.Ceiling
rounding_of float.Trunc = Some by.Trunc
rounding_of f = None

abbrev pub is_rounding : FloatFunction → Bool
is_rounding f = is_some (rounding_of f)

-- one digit more than are left: 9.9 is rounded to 10
abbrev pub left_precision : ℕ → ℕ → ℕ
left_precision p n = if nat_le 18 (p - n) then 18 else (p - n) + 1

abbrev pub left_digits : Digits → ℕ → Digits
left_digits d n = digits_of (left_precision d.precision n) (d.scale - n)

-- to so many places after the point, where decimals have more
abbrev pub rounded_by : Digits → ℕ → Rounding → Option Rounded
rounded_by d s r =
    if nat_le d.scale s then None
    else Some (record { step = rounding r (d.scale - s); digits = left_digits d (d.scale - s) })

-- a float to so many places after the point
abbrev pub placing : FloatPlaces → ℕ → Step
placing f n = record { function = standard.FloatPlaces f; more = more.One n }

abbrev pub float_rounding : FloatFunction → ℕ → Option Step
float_rounding float.Round n = Some (placing places.Round n)
float_rounding float.Trunc n = Some (placing places.Trunc n)
float_rounding f n = None

abbrev pub rounded : FloatFunction → Digits → ℕ → Option Rounded
rounded f d s = option_and_then (rounded_by d s) (rounding_of f)
