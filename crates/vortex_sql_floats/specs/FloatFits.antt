-- The integer of a float has 64 bits.
use Rattle.std.specs.Prelude.{◌≡◌, ◌-◌, ◌*◌, ◌<◌, ℕ, ℤ, pos, negsuc, neg_ℤ, refl}
use Rattle.std.specs.Prelude.{Bool, true, false, nat_le}
use Rattle.std.specs.Float.{Float, Format, binary32, binary64}
use Rattle.std.proofs.Common.{T, arith, cond, subst}
use Rattle.std.proofs.lemmas.Int.{ints}
use lib.Ieee.{fits, to_bits, top}
use lib.Ieee.Bits.{of_bits-fits, to_bits-lt}
use Rattle.vortex_types.specs.declared.dtype.PType.TheVariants.{I64}
use Rattle.vortex_types.specs.Typing.{FitsPType}
use Rattle.vortex_logical.specs.FloatKeys.{key_of_float, key_of_bits, float_of_key, sign_weight}

weight_is : (f : Format) → top f ≡ sign_weight f
weight_is binary32 = refl
weight_is binary64 = refl

bits_fit : (b : ℕ) → b < 2 * 9223372036854775808 → FitsPType I64 (key_of_bits binary64 b)
bits_fit b lt = by (nat_le 9223372036854775808 b) refl
  where
    by : (s : Bool) → nat_le 9223372036854775808 b ≡ s
        → FitsPType I64 (cond s (neg_ℤ (pos (b - 9223372036854775808))) (pos b))
    by true e = grind (arith, ints, lt, e)
    by false e = grind (arith, ints, lt, e)

pub key_fits : (x : Float) → T (fits binary64 x) → FitsPType I64 (key_of_float binary64 x)
key_fits x h =
    bits_fit (to_bits binary64 x)
    (subst (λ n. to_bits binary64 x < 2 * n) (weight_is binary64) (to_bits-lt binary64 x h))

-- the float of any integer is one of the format
pub read_fits : (f : Format) (z : ℤ) → T (fits f (float_of_key f z))
read_fits f (pos n) = of_bits-fits f n
read_fits f (negsuc n) = of_bits-fits f _
