-- What an operand becomes next to another: a float, an integer of another type, or an instant.
use Rattle.std.specs.Prelude.{Option, Some, None, Bool, true, false, if◌then◌else◌}
use Rattle.std.specs.Option.{option_map}
use Rattle.vortex_types.specs.declared.dtype.PType.{PType}
use Rattle.vortex_types.specs.declared.dtype.PType.TheVariants.{I32, I64}
use Rattle.vortex_types.specs.TypeEquality.{ptype_eq}
use Rattle.vortex_logical.specs.declared.kind.Kind.TheVariants.{Date, Timestamp, Decimal, F64, F32}
use Rattle.vortex_logical.specs.declared.operand.Operand.{Operand}
use Rattle.vortex_logical.specs.declared.operand.Operand.TheVariants.{Whole, Of}
use Rattle.vortex_logical.specs.CommonKinds.{common_operand}
use Rattle.vortex_standard.specs.declared.standard.Standard.{Standard}
use Rattle.vortex_standard.specs.declared.standard.Standard.TheVariants as standard
use Rattle.vortex_standard.specs.Scales.{scale_of}
use Rattle.vortex_sql_rows.specs.Types.{has_all_of}
use Rattle.vortex_lowering.specs.Rows.{lowered}
use Rattle.vortex_logical_calls.specs.declared.conversions.Conversion.{Conversion}
use Rattle.vortex_logical_calls.specs.declared.conversions.Conversion.TheVariants.{Keep, Float, Integer, Instant}
use Rattle.vortex_logical_calls.specs.Outcomes.{Outcome, made, and_then}
use Rattle.vortex_logical_calls.specs.Calls.{Lowered, call_one}

abbrev pub is_f64 : Option Operand → Bool
is_f64 (Some (Of F64)) = true
is_f64 o = false

-- a float next to a number
abbrev pub meet_in_float : Operand → Operand → Bool
meet_in_float a b = is_f64 (common_operand a b)

-- decimals are stored in 64 bits, and days in 32; a date next to a timestamp is its midnight
abbrev pub exact_conversion : Operand → Operand → Conversion
exact_conversion (Whole p) (Of (Decimal d)) = Integer I64
exact_conversion (Whole p) (Of Date) = Integer I32
exact_conversion (Of Date) (Of Timestamp) = Instant
exact_conversion a b = Keep

abbrev pub conversion_beside : Operand → Operand → Conversion
conversion_beside a b = if meet_in_float a b then Float else exact_conversion a b

-- unless it stays, else the second
abbrev pub first_conversion : Conversion → Conversion → Conversion
first_conversion Keep t = t
first_conversion t u = t

-- next to two others
abbrev pub conversion_by_two : Operand → Operand → Operand → Conversion
conversion_by_two a b c =
    if meet_in_float a c then Float else first_conversion (conversion_beside a b) (exact_conversion a c)

-- to an integer type: where it has every number of the other, no row faults
abbrev pub integer_cast : PType → PType → Standard
integer_cast q p =
    if has_all_of p q then standard.Widen (record { ptype = p })
    else standard.Cast (record { ptype = p })

-- the function that makes a float of 64 bits of a number
abbrev pub float_function : Operand → Option Standard
float_function (Whole p) = Some standard.IntToFloat
float_function (Of (Decimal d)) = option_map standard.DecimalToFloat (scale_of d.scale)
float_function (Of F32) = Some standard.WidenFloat
float_function a = None

-- an operand, after a function if there is one
abbrev pub after : Option Standard → Operand → Lowered → Outcome Lowered
after None a x = made x
after (Some f) a x = and_then (call_one f x.tree) (λ t. made (lowered t a))

abbrev pub as_float : Lowered → Outcome Lowered
as_float x = after (float_function x.operand) (Of F64) x

-- none to the same type
abbrev pub other_type_cast : PType → PType → Option Standard
other_type_cast q p = if ptype_eq q p then None else Some (integer_cast q p)

abbrev pub integer_function : Operand → PType → Option Standard
integer_function (Whole q) p = other_type_cast q p
integer_function (Of k) p = None

abbrev pub as_integer : PType → Lowered → Outcome Lowered
as_integer p x = after (integer_function x.operand p) (Whole p) x

-- a date as the instant of its midnight
abbrev pub as_instant : Lowered → Outcome Lowered
as_instant x = after (Some standard.DateToTimestamp) (Of Timestamp) x

abbrev pub converted : Conversion → Lowered → Outcome Lowered
converted Keep x = made x
converted Float x = as_float x
converted (Integer p) x = as_integer p x
converted Instant x = as_instant x
