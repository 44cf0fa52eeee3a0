-- A float's pattern, as a signed integer of its size, and its key.
use Rattle.std.specs.Prelude.{Bool, ℤ, pos, negsuc, suc, neg_ℤ, ◌-◌, to_bits, from_bits}
use Rattle.std.specs.Int.{w32, w64, cast_signed, cast_unsigned}
use Rattle.std.specs.Float.{Float, Format, binary32, binary64, float_zero}
use lib.Ieee.{eq}
use Rattle.vortex_logical.specs.FloatKeys.{key_of_float, float_of_key, sign_weight}

-- the key of the float of 64 bits, or of 32, that has this pattern
unfoldable pub wide_key : ℤ → ℤ
wide_key z = key_of_float binary64 (from_bits binary64 (cast_unsigned w64 z))

unfoldable pub narrow_key : ℤ → ℤ
narrow_key z = key_of_float binary32 (from_bits binary32 (cast_unsigned w32 z))

-- the pattern of the float that has this key
unfoldable pub wide_pattern : ℤ → ℤ
wide_pattern z = cast_signed w64 (to_bits binary64 (float_of_key binary64 z))

unfoldable pub narrow_pattern : ℤ → ℤ
narrow_pattern z = cast_signed w32 (to_bits binary32 (float_of_key binary32 z))

-- the float of 64 bits that has this pattern
abbrev pub float_of : ℤ → Float
float_of z = from_bits binary64 (cast_unsigned w64 z)

-- 0 or -0
abbrev pub is_zero : Float → Bool
is_zero x = eq x float_zero

-- a negative number by what its bits below the sign's say: of a float that is no NaN this makes the
-- key of the pattern, and the pattern of the key
abbrev pub turned : Format → ℤ → ℤ
turned f (pos n) = pos n
turned f (negsuc n) = neg_ℤ (pos (sign_weight f - suc n))
