-- The ends of 64 bits as floats.
use Rattle.std.proofs.Common.{◌≡◌, refl}
use Rattle.std.specs.Float.{binary64, float_zero, two_to, minus_two_to}
use lib.Ieee.{of_bits, neg}

pub two_63_is : of_bits binary64 4890909195324358656 ≡ two_to 63
unfolding of_bits
two_63_is = refl

pub minus_63_is : neg (of_bits binary64 4890909195324358656) ≡ minus_two_to 63
unfolding of_bits neg
minus_63_is = refl

pub two_64_is : of_bits binary64 4895412794951729152 ≡ two_to 64
unfolding of_bits
two_64_is = refl

pub zero_is : of_bits binary64 0 ≡ float_zero
unfolding of_bits
zero_is = refl
