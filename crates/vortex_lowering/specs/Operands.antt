-- Operands beside each other: what their stored integers mean, which pairs the shipped functions
-- compare, and the digits after the point that they lack at a scale.
use Rattle.std.specs.Prelude.{◌≡◌, ◌-◌, ℕ, zero, suc, ℤ, Option, Some, Bool, true, false, not}
use Rattle.std.specs.Prelude.{max}
use Rattle.vortex_checked.specs.Exact.{is_outside}
use Rattle.vortex_types.specs.declared.dtype.PType.{PType}
use Rattle.vortex_types.specs.declared.dtype.PType.TheVariants.{I64}
use Rattle.vortex_types.specs.TypeEquality.{ptype_eq}
use Rattle.vortex_types.specs.Typing.{least_of, greatest_of}
use Rattle.vortex_logical.specs.declared.kind.Kind.TheVariants.{Plain, Date, Timestamp, Decimal}
use Rattle.vortex_logical.specs.declared.kind.Kind.TheVariants.{F64, F32}
use Rattle.vortex_logical.specs.declared.operand.Operand.{Operand}
use Rattle.vortex_logical.specs.declared.operand.Operand.TheVariants.{Whole, Of}
use Rattle.vortex_logical.specs.Decimals.{shifted}
use Rattle.vortex_logical.specs.Kinds.{stored_ptype}
use Rattle.vortex_logical.specs.StandsFor.{Meaning, number, StandsFor}

-- the integer type of an operand's stored values; that of a plain one is not known
abbrev pub operand_ptype : Operand → Option PType
operand_ptype (Whole p) = Some p
operand_ptype (Of k) = stored_ptype k

-- the stored integer means the value; a whole number is a decimal without a point
abbrev pub OperandMeans : Operand → ℤ → Meaning → Type 0
OperandMeans (Whole p) z (number m s) = (z ≡ m) × (s ≡ 0)
OperandMeans (Whole p) z v = ⊥
OperandMeans (Of k) z v = StandsFor k z v

-- compared by shipped functions: two of one kind, two decimals of any digits, and a decimal beside
-- a whole number of 64 bits
abbrev pub are_shipped : Operand → Operand → Bool
are_shipped (Whole p) (Whole q) = ptype_eq p q
are_shipped (Of (Decimal d)) (Of (Decimal e)) = true
are_shipped (Of (Decimal d)) (Whole p) = ptype_eq p I64
are_shipped (Whole p) (Of (Decimal e)) = ptype_eq p I64
are_shipped (Of Plain) (Of Plain) = true
are_shipped (Of Date) (Of Date) = true
are_shipped (Of Timestamp) (Of Timestamp) = true
are_shipped (Of F64) (Of F64) = true
are_shipped (Of F32) (Of F32) = true
are_shipped a b = false

-- the count of digits after the point
abbrev pub scale_of : Operand → ℕ
scale_of (Of (Decimal d)) = d.scale
scale_of a = 0

-- the larger of two scales
abbrev pub common_scale : Operand → Operand → ℕ
common_scale a b = max (scale_of a) (scale_of b)

-- the largest of three
abbrev pub bounds_scale : Operand → Operand → Operand → ℕ
bounds_scale a low high = max (common_scale low a) (scale_of high)

-- how many digits after the point a number lacks at a scale
abbrev pub lacking : ℕ → Operand → ℕ
lacking u (Of (Decimal d)) = u - d.scale
lacking u (Whole p) = u
lacking u a = 0

-- 64 bits hold z * 10 ^ k; a number that gets no more digits stays as it is
abbrev pub is_held : ℕ → ℤ → Bool
is_held zero z = true
is_held (suc k) z = not (is_outside (least_of I64) (greatest_of I64) (shifted z (suc k)))

-- 64 bits hold the operand's value at the scale
abbrev pub held_at : ℕ → Operand → Option Meaning → Bool
held_at u a (Some (number m s)) = is_held (lacking u a) m
held_at u a v = true
