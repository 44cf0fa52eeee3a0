-- Arithmetic of two literal numbers, one of them with a point, where columns have kinds: one number,
-- exactly. So `0.06 + 0.01` is 0.07, next to a decimal and next to a float.
use Rattle.std.specs.Prelude.{ℕ, ◌+◌, ℤ, ◌+ℤ◌, ◌-ℤ◌, ◌*ℤ◌, List, Option, Some, None}
use Rattle.std.specs.Prelude.{◌&&◌, option_and_then, if◌then◌else◌, nat_le}
use Rattle.std.specs.Option.{option_map}
use Rattle.vortex_errors.specs.declared.error.NumericOperator.{NumericOperator}
use Rattle.vortex_errors.specs.declared.error.NumericOperator.TheVariants as numeric
use Rattle.vortex_logical.specs.Decimals.{rescaled, within_digits}
use Rattle.vortex_logical.specs.DecimalTexts.{decimal_of_text, decimal_text}
use Rattle.vortex_logical.specs.Digits.{Digits, digits_of}
use Rattle.vortex_logical.specs.Kinds.{decimal_digits}
use Rattle.vortex_logical_calls.specs.Literals.{number_kind}
use Rattle.vortex_expressions.specs.declared.folding.Exact.{Exact}
use Rattle.vortex_expressions.specs.declared.folding.Pair.{Pair}
use Rattle.vortex_expressions.specs.Literals.{number}
use Rattle.vortex_expressions.specs.Items.{Item, literal, fraction}

abbrev pub exact : ℕ → ℤ → Exact
exact s m = record { integer = m; scale = s }

-- 18 digits, as many of them after the point as the number has
abbrev pub number_digits : List ℕ → Option Digits
number_digits w = option_and_then decimal_digits (number_kind w)

-- the number of a text without an exponent, if 18 digits are enough
unfoldable pub exact_of : List ℕ → Option Exact
exact_of w =
    option_and_then (λ d. option_map (exact d.scale) (decimal_of_text d w)) (number_digits w)

-- 18 digits, so many of them after the point
abbrev pub digits_at : ℕ → Option Digits
digits_at s = if nat_le s 18 then Some (digits_of 18 s) else None

abbrev pub within : ℕ → ℤ → Option Exact
within s m =
    option_and_then (λ d. option_map (exact s) (within_digits d.precision m)) (digits_at s)

abbrev pub wider : ℕ → ℕ → ℕ
wider s t = if nat_le s t then t else s

-- the integer with as many digits after the point, if 18 are enough
abbrev pub integer_at : ℕ → Exact → Option ℤ
integer_at s x =
    option_and_then (λ d. option_and_then (λ e. rescaled d e x.integer) (digits_at s))
    (digits_at x.scale)

abbrev pub pair : ℕ → ℤ → ℤ → Pair
pair s m n = record { left = m; right = n; scale = s }

abbrev pub pair_at : ℕ → Exact → Exact → Option Pair
pair_at s x y =
    option_and_then (λ m. option_map (pair s m) (integer_at s y)) (integer_at s x)

-- both with as many digits after the point as the one that has more of them
abbrev pub aligned : Exact → Exact → Option Pair
aligned x y = pair_at (wider x.scale y.scale) x y

abbrev pub sum_of : Pair → Option Exact
sum_of p = within p.scale (p.left +ℤ p.right)

abbrev pub difference_of : Pair → Option Exact
difference_of p = within p.scale (p.left -ℤ p.right)

-- with as many digits after the point as both have
abbrev pub product : Exact → Exact → Option Exact
product x y =
    if nat_le x.scale 18 && nat_le y.scale 18
    then within (x.scale + y.scale) (x.integer *ℤ y.integer) else None

-- a sum, a difference or a product, if it has at most 18 digits; a quotient is none
abbrev pub result_of : NumericOperator → Exact → Exact → Option Exact
result_of numeric.Add x y = option_and_then sum_of (aligned x y)
result_of numeric.Sub x y = option_and_then difference_of (aligned x y)
result_of numeric.Mul x y = product x y
result_of numeric.Div x y = None

abbrev pub exact_text : Exact → Option (List ℕ)
exact_text x = option_map (λ d. decimal_text d.scale x.integer) (digits_at x.scale)

abbrev pub digits_of_item : Item → Option (List ℕ)
digits_of_item (literal (number w)) = Some w
digits_of_item (fraction w) = Some w
digits_of_item i = None

-- a literal number
abbrev pub number_of : Item → Option Exact
number_of i = option_and_then exact_of (digits_of_item i)

-- the result of two literal numbers
abbrev pub folded_number : NumericOperator → Item → Item → Option Exact
folded_number o a b =
    option_and_then (λ x. option_and_then (result_of o x) (number_of b)) (number_of a)

-- its text
abbrev pub folded : NumericOperator → Item → Item → Option (List ℕ)
folded o a b = option_and_then exact_text (folded_number o a b)
