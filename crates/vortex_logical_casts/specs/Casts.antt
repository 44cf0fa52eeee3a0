-- Which functions casts from and to kinds are.
use Rattle.std.specs.Prelude.{ℕ, ◌-◌, Bool, false, Option, Some, None, nat_le, if◌then◌else◌}
use Rattle.vortex_types.specs.declared.dtype.PType.{PType}
use Rattle.vortex_types.specs.declared.dtype.PType.TheVariants.{I64}
use Rattle.vortex_logical.specs.Digits.{Digits}
use Rattle.vortex_logical.specs.declared.kind.Kind.{Kind}
use Rattle.vortex_logical.specs.declared.kind.Kind.TheVariants.{Plain, Date, Timestamp, Decimal}
use Rattle.vortex_logical.specs.declared.kind.Kind.TheVariants.{F64, F32}
use Rattle.vortex_logical.specs.declared.operand.Operand.{Operand}
use Rattle.vortex_logical.specs.declared.operand.Operand.TheVariants.{Whole, Of}
use Rattle.vortex_float_texts.specs.declared.width.Width.{Width}
use Rattle.vortex_float_texts.specs.declared.width.Width.TheVariants as width
use Rattle.vortex_sql_rows.specs.Types.{has_all_of}
use Rattle.vortex_sql_kind_texts.specs.declared.kinds.StoredKind.{StoredKind}
use Rattle.vortex_sql_kind_texts.specs.declared.kinds.StoredKind.TheVariants as stored
use Rattle.vortex_sql_kind_texts.specs.declared.kinds.WrittenKind.{WrittenKind}
use Rattle.vortex_sql_kind_texts.specs.declared.kinds.WrittenKind.TheVariants as written
use Rattle.vortex_sql_kind_texts.specs.declared.decimals.Rounding.{Rounding}
use Rattle.vortex_sql_kind_texts.specs.declared.decimals.Rounding.TheVariants.{Half}
use Rattle.vortex_standard.specs.declared.standard.Standard.{Standard}
use Rattle.vortex_standard.specs.declared.standard.Standard.TheVariants as standard
use Rattle.vortex_logical_casts.specs.declared.steps.Step.{Step}
use Rattle.vortex_logical_casts.specs.declared.steps.Steps.{Steps}
use Rattle.vortex_logical_casts.specs.declared.steps.Steps.TheVariants.{One, Two}
use Rattle.vortex_logical_casts.specs.declared.steps.More.TheVariants as more

abbrev pub alone : Standard → Step
alone f = record { function = f; more = more.Nothing }

-- what is null where a text is none of the kind, if the flag is true
abbrev pub reading : Bool → StoredKind → Steps
reading p k =
    One (alone (if p then standard.TryTextToKind (record { kind = k })
    else standard.TextToKind (record { kind = k })))

abbrev pub reading_digits : Bool → Digits → Steps
reading_digits p d =
    One (record {
      function = if p then standard.TryTextToDecimal else standard.TextToDecimal;
      more = more.Two d.precision d.scale;
    })

-- from a text
abbrev pub text_steps : Bool → Kind → Option Steps
text_steps p Plain = None
text_steps p Date = Some (reading p stored.Date)
text_steps p Timestamp = Some (reading p stored.Timestamp)
text_steps p (Decimal d) = Some (reading_digits p d)
text_steps p F64 = Some (reading p stored.F64)
text_steps p F32 = Some (reading p stored.F32)

-- so many zeros more, as a decimal of the precision
abbrev pub scaling : Bool → ℕ → ℕ → Step
scaling p n m = record {
  function = if p then standard.TryDecimalScaled else standard.DecimalScaled;
  more = more.Two n m;
}

-- so many digits fewer
abbrev pub rounding : Rounding → ℕ → Step
rounding r n = record {
  function = standard.DecimalRound (record { rounding = r });
  more = more.One n;
}

abbrev pub rescaling : Bool → Digits → Digits → Steps
rescaling p d e =
    if nat_le d.scale e.scale then One (scaling p (e.scale - d.scale) e.precision)
    else Two (rounding Half (d.scale - e.scale)) (scaling p 0 e.precision)

-- from a whole number or a decimal to a decimal
abbrev pub decimal_steps : Bool → Digits → Operand → Option Steps
decimal_steps p e (Whole q) = Some (One (scaling p e.scale e.precision))
decimal_steps p e (Of (Decimal d)) = Some (rescaling p d e)
decimal_steps p e (Of k) = None

-- an integer of 64 bits in another type; null where that does not have it, if the flag is true
abbrev pub narrowed : Bool → PType → Standard
narrowed p q =
    if p then standard.TryCast (record { ptype = q }) else standard.Cast (record { ptype = q })

abbrev pub narrowing : Bool → PType → Step
narrowing p q =
    alone (if has_all_of q I64 then standard.Widen (record { ptype = q }) else narrowed p q)

abbrev pub nearest : Bool → PType → Step
nearest p q =
    alone (if p then standard.TryFloatToInt (record { ptype = q })
    else standard.FloatToInt (record { ptype = q }))

-- from a number of a kind to the nearest integer; null where the type does not have it, if the
-- flag is true
abbrev pub integer_steps : Bool → Kind → PType → Option Steps
integer_steps p (Decimal d) q = Some (Two (rounding Half d.scale) (narrowing p q))
integer_steps p F64 q = Some (One (nearest p q))
integer_steps p F32 q = Some (Two (alone standard.WidenFloat) (nearest p q))
integer_steps p k q = None

-- from a float to a decimal; null where that does not have it, if the flag is true
abbrev pub float_steps : Bool → Digits → Steps
float_steps p d =
    One (record {
      function = if p then standard.TryFloatToDecimal else standard.FloatToDecimal;
      more = more.Two d.scale d.precision;
    })

abbrev pub writing : WrittenKind → Steps
writing k = One (alone (standard.KindToText (record { kind = k })))

abbrev pub float_writing : Width → Steps
float_writing w = One (alone (standard.FloatToText (record { width = w })))

-- to a text
abbrev pub written_steps : Kind → Option Steps
written_steps Date = Some (writing written.Date)
written_steps Timestamp = Some (writing written.Timestamp)
written_steps (Decimal d) =
    Some (One (record { function = standard.DecimalToText; more = more.One d.scale }))
written_steps F64 = Some (float_writing width.F64)
written_steps F32 = Some (float_writing width.F32)
written_steps Plain = None
