-- Exact arithmetic of whole numbers, and where a type holds the result.
use Rattle.std.specs.Int.{Width, cast_unsigned, int_wrap}
use mir.Val.{bits}
use Rattle.std.specs.Int.Bits.{bit_xor}
use Rattle.std.proofs.Common.{cond}
use Rattle.std.specs.Prelude.{ℕ, zero, ◌/◌, ◌-◌, ◌^◌, ◌≤ℤ◌, ℤ, pos, Option, Some, None, Bool, ◌||◌}
use Rattle.std.specs.Prelude.{int_lt, int_div}

-- the numbers from the least to the greatest
abbrev pub IsWithin : ℤ → ℤ → ℤ → Type 0
IsWithin least greatest z = (least ≤ℤ z) × (z ≤ℤ greatest)

-- the quotient, truncated toward zero; none for division by zero
abbrev pub quotient : ℤ → ℤ → Option ℤ
quotient a (pos zero) = None
quotient a b = Some (int_div a b)

-- there is a result, and the type holds it
abbrev pub HasResult : ℤ → ℤ → Option ℤ → Type 0
HasResult least greatest None = ⊥
HasResult least greatest (Some z) = IsWithin least greatest z

-- whether a number is outside the range
abbrev pub is_outside : ℤ → ℤ → ℤ → Bool
is_outside least greatest z = int_lt z least || int_lt greatest z

-- the result where the type holds it, else 0
abbrev pub held_or_zero : ℤ → ℤ → Option ℤ → ℤ
held_or_zero least greatest None = pos 0
held_or_zero least greatest (Some z) = cond (is_outside least greatest z) (pos 0) z

-- a word of a width, each bit of which is the sign of a number
abbrev pub sign_word : Width → ℤ → ℕ
sign_word w z = cond (int_lt z (pos 0)) (2 ^ bits w - 1) 0

-- For a product of two numbers in twice their bits: the upper half, each bit negated where the
-- lower half is negative. It is zero exactly where the lower half holds the product.
abbrev pub wide_evidence : Width → Width → ℤ → ℕ
wide_evidence w wide z = bit_xor (cast_unsigned wide z / 2 ^ bits w) (sign_word w (int_wrap w z))
