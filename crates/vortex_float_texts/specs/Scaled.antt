-- The size of a float over a power of ten below its last bit.
use Rattle.std.specs.Prelude.{◌≡◌, ◌+◌, ◌-◌, ◌*◌, ◌/◌, ◌%◌, ◌^◌, ℕ, max, nat_eq, nat_lt, if◌then◌else◌}
use Rattle.fast_float.specs.Powers.{power_num, power_den, power_scale}
use Rattle.vortex_float_texts.specs.declared.width.Width.{Width}
use Rattle.vortex_float_texts.specs.Widths.{hidden, least}

-- a pattern means its significand times 2 to the power of its exponent less 1074
abbrev pub significand : Width → ℕ → ℕ
significand w n = (if nat_lt n (hidden w) then 0 else hidden w) + n % hidden w

abbrev pub exponent : Width → ℕ → ℕ
exponent w n = least w + (n / hidden w - 1)

-- the power of ten, and 400, that is a hundredth of 2 to the power e less 1074, or a little less;
-- 315653 over 2 to the power 20 is the logarithm of 2
abbrev pub power_at : ℕ → ℕ
power_at e = max ((e * 315653 + 78322000) / 1048576) 75

-- 10 to the power q less 342, as 128 bits
unfoldable pub row_at : ℕ → ℕ
row_at q = power_num q / power_den q

-- how many bits behind the point the significand has, times that row
abbrev pub bits_at : ℕ → ℕ
bits_at e = 2340 - e - power_scale (742 - power_at e)

-- twice v without its last s bits, and one more where these are not all 0
abbrev pub halves : ℕ → ℕ → ℕ
halves v s = 2 * (v / 2 ^ s) + (if nat_eq (v % 2 ^ s) 0 then 0 else 1)

-- twice a float over 10 to the power `power_at` less 400, and one more where that is not whole
abbrev pub halves_at : ℕ → ℕ → ℕ
halves_at m e = halves (row_at (742 - power_at e) * m) (bits_at e)
