-- The kinds, the integer types that store them, and their names.
use Rattle.std.specs.Prelude.{◌≡◌, ℕ, ◌+◌, ◌-◌, List, [], ◌∷◌, ◌++◌, Option, Some, None, codes}
use Rattle.std.specs.Prelude.{take, drop}
use Rattle.std.specs.Prelude.{if◌then◌else◌, ◌==◌, ◌&&◌, nat_le, Bool}
use Rattle.std.specs.Char.{is_ascii_digit}
use Rattle.std.specs.Fmt.{decimal}
use Rattle.std.specs.Option.{option_map}
use Rattle.std.specs.Str.{bytes_eq}
use Rattle.vortex_types.specs.LogicalTypes.{LogicalType, integer_type}
use Rattle.vortex_types.specs.declared.dtype.PType.{PType}
use Rattle.vortex_types.specs.declared.dtype.PType.TheVariants.{I32, I64}
use Rattle.vortex_logical.specs.declared.kind.Kind.{Kind}
use Rattle.vortex_logical.specs.declared.kind.Kind.TheVariants.{Plain, Date, Timestamp, Decimal}
use Rattle.vortex_logical.specs.declared.kind.Kind.TheVariants.{F64, F32}
use Rattle.vortex_logical.specs.Digits.{Digits, AreDigits, digits_of}

-- the integer type of a kind's stored values; a plain column has a type of its own
abbrev pub stored_ptype : Kind → Option PType
stored_ptype Plain = None
stored_ptype Date = Some I32
stored_ptype Timestamp = Some I64
stored_ptype (Decimal d) = Some I64
stored_ptype F64 = Some I64
stored_ptype F32 = Some I32

-- that type, with null or without
abbrev pub stored_type : Kind → Bool → Option LogicalType
stored_type k n = option_map (λ p. integer_type p n) (stored_ptype k)

abbrev pub decimal_digits : Kind → Option Digits
decimal_digits (Decimal d) = Some d
decimal_digits k = None

abbrev pub kind_name : Kind → List ℕ
kind_name Plain = codes "plain"
kind_name Date = codes "date"
kind_name Timestamp = codes "timestamp"
kind_name (Decimal d) =
    codes "decimal(" ++ decimal d.precision ++ codes "," ++ decimal d.scale ++ codes ")"
kind_name F64 = codes "f64"
kind_name F32 = codes "f32"

abbrev pub decimal_kind : ℕ → ℕ → Option Kind
decimal_kind p s =
    if nat_le 1 p && nat_le p 18 && nat_le s p
    then Some (Decimal (digits_of p s)) else None

-- the digit of a byte
abbrev pub digit_of : ℕ → Option ℕ
digit_of b = if is_ascii_digit b then Some (b - 48) else None

-- the number below 20 that a byte 1 and a digit write
abbrev pub teen_of : ℕ → ℕ → Option ℕ
teen_of t b = if t == 49 then option_map (λ n. 10 + n) (digit_of b) else None

abbrev pub decimal_of : Option ℕ → ℕ → Option ℕ → ℕ → Option Kind
decimal_of (Some p) comma (Some s) close =
    if (comma == 44) && (close == 41) then decimal_kind p s else None
decimal_of p comma s close = None

-- the kind of precision, comma, scale and closing parenthesis
abbrev pub digits_named : List ℕ → Option Kind
digits_named (p ∷ c ∷ s ∷ e ∷ []) = decimal_of (digit_of p) c (digit_of s) e
digits_named (t ∷ p ∷ c ∷ s ∷ e ∷ []) = decimal_of (teen_of t p) c (digit_of s) e
digits_named (t ∷ p ∷ c ∷ u ∷ s ∷ e ∷ []) = decimal_of (teen_of t p) c (teen_of u s) e
digits_named bs = None

abbrev pub decimal_named : List ℕ → Option Kind
decimal_named w =
    if bytes_eq (take 8 w) (codes "decimal(") then digits_named (drop 8 w) else None

-- the kind of that name; a plain column is named by its type
abbrev pub kind_named : List ℕ → Option Kind
kind_named w =
    if bytes_eq w (codes "date") then Some Date
    else (if bytes_eq w (codes "timestamp") then Some Timestamp
    else (if bytes_eq w (codes "f64") then Some F64
    else (if bytes_eq w (codes "f32") then Some F32
    else decimal_named w)))

-- a kind that has a name: a decimal has digits
abbrev pub IsNamed : Kind → Type 0
IsNamed Plain = ⊥
IsNamed (Decimal d) = AreDigits d
IsNamed k = Unit {0}

-- the name of a kind is read back as the kind
abbrev pub NamesAreReadBack : Type 0
NamesAreReadBack = (k : Kind) → IsNamed k → kind_named (kind_name k) ≡ Some k
