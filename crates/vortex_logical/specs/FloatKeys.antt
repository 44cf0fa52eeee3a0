-- Floats as stored integers: the pattern of the size, with the float's sign. Both zeros are 0, and
-- a NaN is above the infinity.
use Rattle.std.specs.Prelude.{◌≡◌, ◌-◌, ◌+◌, ◌*◌, ◌%◌, ℕ, ℤ, pos, negsuc, suc, neg_ℤ, T, nat_le}
use Rattle.std.specs.Prelude.{if◌then◌else◌, to_bits, from_bits}
use Rattle.std.specs.Float.{Float, Format, binary32, binary64}
use Rattle.std.specs.Ordering.{int_cmp, nan_last_cmp}
use Rattle.std.specs.declared.cmp.Ordering.TheVariants.{Equal}
use lib.Ieee.{fits}

-- what the bit of the sign weighs in a pattern
abbrev pub sign_weight : Format → ℕ
sign_weight binary32 = 2147483648
sign_weight binary64 = 9223372036854775808

abbrev pub key_of_bits : Format → ℕ → ℤ
key_of_bits f b =
    if nat_le (sign_weight f) b then neg_ℤ (pos (b - sign_weight f)) else pos b

-- the integer that stands for a float
abbrev pub key_of_float : Format → Float → ℤ
key_of_float f x = key_of_bits f (to_bits f x)

-- the float that an integer stands for
abbrev pub float_of_key : Format → ℤ → Float
float_of_key f (pos n) = from_bits f n
float_of_key f (negsuc n) = from_bits f ((suc n + sign_weight f) % (2 * sign_weight f))

-- the order of the integers is PostgreSQL's order of the floats: a NaN equals a NaN and is
-- greatest, and -0 equals 0
abbrev pub KeysAreOrdered : Type 0
KeysAreOrdered =
    (f : Format) (x y : Float) → T (fits f x) → T (fits f y)
    → int_cmp (key_of_float f x) (key_of_float f y) ≡ nan_last_cmp x y

-- the integer of a float is read back as an equal float
abbrev pub KeysAreReadBack : Type 0
KeysAreReadBack =
    (f : Format) (x : Float) → T (fits f x)
    → nan_last_cmp (float_of_key f (key_of_float f x)) x ≡ Equal
