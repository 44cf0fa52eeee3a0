-- A float without a fraction as an integer of 64 bits: none of a NaN, and none beyond them.
use Rattle.std.specs.Prelude.{◌&&◌, Bool, Option, Some, None, ℤ, pos}
use Rattle.std.specs.Prelude.{if◌then◌else◌}
use Rattle.std.specs.Float.{Float, float_zero, two_to, minus_two_to}
use Rattle.std.specs.Float.{float_to_signed, float_to_unsigned}
use Rattle.std.specs.Int.{w64}
use lib.Ieee.{le, lt}

-- 64 bits have it, with a sign and without
abbrev pub has_sign_bits : Float → Bool
has_sign_bits x = le (minus_two_to 63) x && lt x (two_to 63)

abbrev pub has_bits : Float → Bool
has_bits x = le float_zero x && lt x (two_to 64)

abbrev pub signed_in : Float → Option ℤ
signed_in x = if has_sign_bits x then Some (float_to_signed w64 x) else None

abbrev pub unsigned_in : Float → Option ℤ
unsigned_in x = if has_bits x then Some (pos (float_to_unsigned w64 x)) else None
