-- The kind in which two kinds meet, and the kinds of answers.
use Rattle.std.specs.Prelude.{ℕ, ◌+◌, ◌-◌, min, max, Option, Some, None, Bool, true, false}
use Rattle.std.specs.Prelude.{if◌then◌else◌, ◌&&◌, nat_le}
use Rattle.vortex_types.specs.TypeEquality.{ptype_eq}
use Rattle.vortex_types.specs.declared.dtype.PType.{PType}
use Rattle.vortex_types.specs.declared.dtype.PType.TheVariants.{I8, I16, I32, I64, U8, U16, U32}
use Rattle.vortex_types.specs.declared.dtype.PType.TheVariants.{U64}
use Rattle.vortex_logical.specs.declared.kind.Kind.TheVariants.{Plain, Date, Timestamp, Decimal}
use Rattle.vortex_logical.specs.declared.kind.Kind.TheVariants.{F64, F32}
use Rattle.vortex_logical.specs.declared.operand.Operand.{Operand}
use Rattle.vortex_logical.specs.declared.operand.Operand.TheVariants.{Whole, Of}
use Rattle.vortex_logical.specs.declared.operand.Meeting.{Meeting}
use Rattle.vortex_logical.specs.declared.operand.Meeting.TheVariants.{Comparison, Sum, Product}
use Rattle.vortex_logical.specs.Digits.{Digits, digits_of}
use Rattle.vortex_logical.specs.Kinds.{decimal_digits}

-- how many digits the numbers of an integer type have, of which a decimal holds 18
abbrev pub whole_digits : PType → ℕ
whole_digits I8 = 3
whole_digits U8 = 3
whole_digits I16 = 5
whole_digits U16 = 5
whole_digits I32 = 10
whole_digits U32 = 10
whole_digits I64 = 18
whole_digits U64 = 18

-- the digits of a decimal, a whole number being one without a point
abbrev pub operand_digits : Operand → Option Digits
operand_digits (Whole p) = Some (digits_of (whole_digits p) 0)
operand_digits (Of k) = decimal_digits k

-- the larger scale, and as many digits before the point as either has, where 18 hold them
abbrev pub common_digits : Digits → Digits → Digits
common_digits a b =
    let s = max a.scale b.scale in
    digits_of (min 18 (max (a.precision - a.scale) (b.precision - b.scale) + s)) s

-- one digit more before the point
abbrev pub sum_digits : Digits → Digits → Digits
sum_digits a b =
    let c = common_digits a b in digits_of (min 18 (c.precision + 1)) c.scale

-- the scales add, and so do the digits, where 18 hold them
abbrev pub product_digits : Digits → Digits → Option Digits
product_digits a b =
    if nat_le (a.scale + b.scale) 18
    then Some (digits_of (min 18 (a.precision + b.precision)) (a.scale + b.scale)) else None

abbrev pub met_digits : Meeting → Digits → Digits → Option Digits
met_digits Comparison a b = Some (common_digits a b)
met_digits Sum a b = Some (sum_digits a b)
met_digits Product a b = product_digits a b

abbrev pub is_float : Operand → Bool
is_float (Of F64) = true
is_float (Of F32) = true
is_float a = false

abbrev pub decimal_operand : Option Digits → Option Operand
decimal_operand None = None
decimal_operand (Some d) = Some (Of (Decimal d))

abbrev pub float_if : Bool → Option Operand
float_if b = if b then Some (Of F64) else None

-- two decimals are a decimal; a float beside a float or a decimal is a float
abbrev pub numbers_met : Meeting → Option Digits → Option Digits → Bool → Bool → Option Operand
numbers_met m (Some a) (Some b) f g = decimal_operand (met_digits m a b)
numbers_met m (Some a) None f g = float_if g
numbers_met m None (Some b) f g = float_if f
numbers_met m None None f g = float_if (f && g)

-- whole numbers are of one type, as in columns of integers
abbrev pub met_numbers : Meeting → Operand → Operand → Option Operand
met_numbers m (Whole p) (Whole q) = if ptype_eq p q then Some (Whole p) else None
met_numbers m (Of F32) (Of F32) = Some (Of F32)
met_numbers m a b =
    numbers_met m (operand_digits a) (operand_digits b) (is_float a) (is_float b)

-- the kind in which two are compared
abbrev pub common_operand : Operand → Operand → Option Operand
common_operand (Of Plain) (Of Plain) = Some (Of Plain)
common_operand (Of Date) (Of Date) = Some (Of Date)
common_operand (Of Timestamp) (Of Timestamp) = Some (Of Timestamp)
common_operand a b = met_numbers Comparison a b

-- the kinds of sums, differences and products: days are added to a date
abbrev pub sum_operand : Operand → Operand → Option Operand
sum_operand (Of Date) (Whole p) = Some (Of Date)
sum_operand (Whole p) (Of Date) = Some (Of Date)
sum_operand a b = met_numbers Sum a b

abbrev pub difference_operand : Operand → Operand → Option Operand
difference_operand (Of Date) (Of Date) = Some (Whole I32)
difference_operand (Of Date) (Whole p) = Some (Of Date)
difference_operand a b = met_numbers Sum a b

abbrev pub product_operand : Operand → Operand → Option Operand
product_operand a b = met_numbers Product a b
