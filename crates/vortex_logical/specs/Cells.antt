-- Texts of each kind, and the integers that stand for them.
use Rattle.std.specs.Prelude.{◌≡◌, ℕ, ℤ, List, Option, Some, None, T, Bool}
use Rattle.std.specs.Bool.{MatchBool}
use Rattle.std.specs.Option.{option_map}
use Rattle.std.specs.Float.{Float, Format, binary32, binary64}
use lib.Ieee.{fits}
use Rattle.fast_float.specs.Parse.{parse_float}
use Rattle.vortex_logical.specs.declared.kind.Kind.{Kind}
use Rattle.vortex_logical.specs.declared.kind.Kind.TheVariants.{Plain, Date, Timestamp, Decimal}
use Rattle.vortex_logical.specs.declared.kind.Kind.TheVariants.{F64, F32}
use Rattle.vortex_logical.specs.Digits.{AreDigits}
use Rattle.vortex_logical.specs.Decimals.{HasDigits}
use Rattle.vortex_logical.specs.DecimalTexts.{decimal_of_text, decimal_text}
use Rattle.vortex_logical.specs.DateTexts.{date_of_text, IsDated, IsDateText}
use Rattle.vortex_logical.specs.TimestampTexts.{timestamp_of_text, IsTimed, IsTimestampText}
use Rattle.vortex_logical.specs.FloatKeys.{key_of_float, float_of_key}
use Rattle.vortex_logical.specs.Written.{Appends}

-- the integer of the float that a text means, rounded once
abbrev pub key_of_text : Format → List ℕ → Option ℤ
key_of_text f text = option_map (λ x. key_of_float f x) (parse_float f text)

-- the integer that a column of the kind stores for a text; a plain column has its own texts
abbrev pub stored_of_text : Kind → List ℕ → Option ℤ
stored_of_text Plain text = None
stored_of_text Date text = date_of_text text
stored_of_text Timestamp text = timestamp_of_text text
stored_of_text (Decimal d) text = decimal_of_text d text
stored_of_text F64 text = key_of_text binary64 text
stored_of_text F32 text = key_of_text binary32 text

-- the integer stands for some float of the format
abbrev pub IsKey : Format → ℤ → Type 0
IsKey f z = (x : Float) × T (fits f x) × (z ≡ key_of_float f x)

-- the integer stands for a value of the kind that has a text
abbrev pub IsStored : Kind → ℤ → Type 0
IsStored Plain z = ⊥
IsStored Date z = IsDated z
IsStored Timestamp z = IsTimed z
IsStored (Decimal d) z = HasDigits d.precision z
IsStored F64 z = IsKey binary64 z
IsStored F32 z = IsKey binary32 z

-- the text of the value that the integer stands for
abbrev pub IsCellText : Kind → ℤ → List ℕ → Type 0
IsCellText Plain z text = ⊥
IsCellText Date z text = IsDateText z text
IsCellText Timestamp z text = IsTimestampText z text
IsCellText (Decimal d) z text = text ≡ decimal_text d.scale z
IsCellText F64 z text = parse_float binary64 text ≡ Some (float_of_key binary64 z)
IsCellText F32 z text = parse_float binary32 text ≡ Some (float_of_key binary32 z)

-- a stored value's text was appended, or there is none and nothing was
abbrev pub WritesCell : Kind → ℤ → List ℕ → List ℕ → Bool → Type 0
WritesCell k z old new written =
    MatchBool written (IsStored k z × Appends (IsCellText k z) old new)
    (¬ IsStored k z × (new ≡ old))

-- the digits of a decimal kind
abbrev pub HasKindDigits : Kind → Type 0
HasKindDigits (Decimal d) = AreDigits d
HasKindDigits k = Unit {0}

-- what is written of a stored value is read back as the same integer
abbrev pub CellsAreReadBack : Type 0
CellsAreReadBack =
    (k : Kind) (z : ℤ) (text : List ℕ) → HasKindDigits k → IsStored k z → IsCellText k z text
    → stored_of_text k text ≡ Some z
