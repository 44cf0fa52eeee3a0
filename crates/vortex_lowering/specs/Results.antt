-- Sums, differences and products of values: which operands have them by shipped functions, and what
-- they are.
use Rattle.std.specs.Prelude.{◌≡◌, ◌+◌, ◌-◌, max, ℕ, ℤ, pos, ◌+ℤ◌, ◌-ℤ◌, ◌*ℤ◌, Option, Some, None}
use Rattle.std.specs.Prelude.{Bool, true, false, not}
use Rattle.jiff_core.specs.Calendar.{days_from_civil}
use Rattle.vortex_checked.specs.Exact.{is_outside}
use Rattle.vortex_errors.specs.declared.error.NumericOperator.{NumericOperator}
use Rattle.vortex_errors.specs.declared.error.NumericOperator.TheVariants.{Add, Sub, Mul, Div}
use Rattle.vortex_types.specs.declared.dtype.PType.{PType}
use Rattle.vortex_types.specs.declared.dtype.PType.TheVariants.{I32, I64}
use Rattle.vortex_types.specs.TypeEquality.{ptype_eq}
use Rattle.vortex_types.specs.Typing.{least_of, greatest_of}
use Rattle.vortex_logical.specs.declared.kind.Kind.TheVariants.{Date, Decimal}
use Rattle.vortex_logical.specs.declared.operand.Operand.{Operand}
use Rattle.vortex_logical.specs.declared.operand.Operand.TheVariants.{Whole, Of}
use Rattle.vortex_logical.specs.CommonKinds.{sum_operand, difference_operand, product_operand}
use Rattle.vortex_logical.specs.Decimals.{shifted}
use Rattle.vortex_logical.specs.StandsFor.{Meaning, number, day, Day, NumbersDay}
use Rattle.vortex_lowering.specs.Operands.{common_scale, operand_ptype}

-- the kind of the result
abbrev pub result_operand : NumericOperator → Operand → Operand → Option Operand
result_operand Add a b = sum_operand a b
result_operand Sub a b = difference_operand a b
result_operand Mul a b = product_operand a b
result_operand Div a b = None

-- computed by shipped functions: numbers in one integer type, and days of a date
abbrev pub are_computed : NumericOperator → Operand → Operand → Bool
are_computed o (Whole p) (Whole q) = ptype_eq p q
are_computed o (Of (Decimal d)) (Of (Decimal e)) = true
are_computed o (Of (Decimal d)) (Whole p) = ptype_eq p I64
are_computed o (Whole p) (Of (Decimal e)) = ptype_eq p I64
are_computed Add (Of Date) (Whole p) = ptype_eq p I32
are_computed Add (Whole p) (Of Date) = ptype_eq p I32
are_computed Sub (Of Date) (Whole p) = ptype_eq p I32
are_computed Sub (Of Date) (Of Date) = true
are_computed o a b = false

-- the scale at which two are added or subtracted; factors stay as they are
abbrev pub met_scale : NumericOperator → Operand → Operand → ℕ
met_scale Mul a b = 0
met_scale o a b = common_scale a b

-- the day e is n days after the day d
abbrev pub IsDaysAfter : Day → ℤ → Day → Type 0
IsDaysAfter d n e = (z : ℤ) × NumbersDay z d × NumbersDay (z +ℤ n) e

-- numbers at the larger scale; the scales of factors add; days after a date, or between dates
abbrev pub IsValueOf : NumericOperator → Meaning → Meaning → Meaning → Type 0
IsValueOf Add (number m s) (number n t) r =
    let u = max s t in r ≡ number (shifted m (u - s) +ℤ shifted n (u - t)) u
IsValueOf Sub (number m s) (number n t) r =
    let u = max s t in r ≡ number (shifted m (u - s) -ℤ shifted n (u - t)) u
IsValueOf Mul (number m s) (number n t) r = r ≡ number (m *ℤ n) (s + t)
IsValueOf Add (day d) (number n s) (day e) = IsDaysAfter d n e
IsValueOf Add (number n s) (day d) (day e) = IsDaysAfter d n e
IsValueOf Sub (day d) (number n s) (day e) = IsDaysAfter e n d
IsValueOf Sub (day d) (day e) (number n s) = IsDaysAfter e n d × (s ≡ 0)
IsValueOf o v w r = ⊥

-- null of null
abbrev pub IsResult : NumericOperator → Option Meaning → Option Meaning → Option Meaning → Type 0
IsResult o (Some v) (Some w) (Some r) = IsValueOf o v w r
IsResult o (Some v) (Some w) None = ⊥
IsResult o v w r = r ≡ None

-- the stored integer of a number or a day
abbrev pub stored_of : Meaning → ℤ
stored_of (number m s) = m
stored_of (day d) = days_from_civil (pos d.year) d.month d.day
stored_of v = pos 0

abbrev pub type_holds : Option PType → ℤ → Bool
type_holds None z = true
type_holds (Some p) z = not (is_outside (least_of p) (greatest_of p) z)

-- the operand's type holds the stored integer
abbrev pub result_held : Operand → Option Meaning → Bool
result_held a None = true
result_held a (Some v) = type_holds (operand_ptype a) (stored_of v)
