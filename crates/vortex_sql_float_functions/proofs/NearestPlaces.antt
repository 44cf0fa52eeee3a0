-- The float nearest to a decimal, by a power of ten.
use Rattle.std.proofs.Common.{◌≡◌, ◌*◌, ◌^◌, ℕ, zero, suc, Bool, pos, refl, arith}
use Rattle.std.specs.Prelude.{neg_ℤ}
use Rattle.std.specs.Float.{Format}
use lib.Ieee.{round}
use Rattle.fast_float.specs.Rounding.{nearest_to_decimal}

ten_times : (d : ℕ) → d * 1 ≡ d
ten_times d = omega arith

pub nearest_is : (f : Format) (n : Bool) (d k : ℕ)
    → nearest_to_decimal f n d (neg_ℤ (pos k)) ≡ round f n d (10 ^ k)
nearest_is f n d zero = (λ i. round f n (ten_times d i) 1)
nearest_is f n d (suc k) = refl
