-- The first 15 significant digits of a float of 64 bits, as C's `%.15g` prints them: of the decimals
-- with so many the nearest, from halfway the even one.
use Rattle.std.specs.Prelude.{◌≡◌, ◌+◌, ◌-◌, ◌/◌, ℕ, ℤ, Bool, Option, Some, None, length, nat_lt}
use Rattle.std.specs.Prelude.{if◌then◌else◌}
use Rattle.std.specs.Float.{binary64}
use Rattle.std.specs.Fmt.{decimal}
use Rattle.std.specs.Ordering.{int_eq}
use Rattle.vortex_logical.specs.FloatKeys.{float_of_key, key_of_float}
use Rattle.vortex_float_texts.specs.declared.leading.FirstDigits.{FirstDigits}
use Rattle.vortex_float_texts.specs.declared.width.Width.TheVariants.{F64}
use Rattle.vortex_float_texts.specs.Candidates.{nearest}
use Rattle.vortex_float_texts.specs.Scaled.{exponent, halves_at, power_at, significand}
use Rattle.vortex_float_texts.specs.Widths.{infinity}

-- whether an integer stands for a float
abbrev pub is_float : ℤ → Bool
is_float z = int_eq (key_of_float binary64 (float_of_key binary64 z)) z

-- how many digits a number has after its first 15
abbrev pub after_fifteen : ℕ → ℕ
after_fifteen m = length (decimal m) - 15

-- of twice a number; those with no more digits are of floats below the normal ones, and their last
-- digit may be the next one
abbrev pub fifteen : ℕ → ℕ
fifteen h = nearest h (after_fifteen (h / 2))

abbrev pub halves_of : ℕ → ℕ
halves_of n = halves_at (significand F64 n) (exponent F64 n)

-- of a pattern: the digits, times 10 to the power less 400
abbrev pub leading_of : ℕ → FirstDigits
leading_of n = record {
  digits = fifteen (halves_of n);
  power = power_at (exponent F64 n) + after_fifteen (halves_of n / 2);
}

-- neither the infinity nor a NaN has any
abbrev pub leading : ℕ → Option FirstDigits
leading n = if nat_lt n (infinity F64) then Some (leading_of n) else None
