-- Powers of ten that 64 bits hold.
use Rattle.std.proofs.Common.{◌≡◌, ℕ, pos, ◌+◌, ◌-◌, ◌^◌, ◌<◌, ◌≤◌, arith, zero, suc, ap, FitsSigned, w64}
use Rattle.std.proofs.Math.Nat.{mul-le-mul, le_refl}
use Rattle.std.proofs.lemmas.Int.{ints}
use lib.Pow.{pow-add}

ten_pos : (k : ℕ) → 0 < 10 ^ k
ten_pos zero = omega arith
ten_pos (suc k) = omega (arith, ten_pos k, pow-add 10 k 1)

ten_more : (k j : ℕ) → 10 ^ k ≤ 10 ^ (k + j)
ten_more k j = omega (arith, pow-add 10 k j, mul-le-mul (le_refl (10 ^ k)) (ten_pos j))

ten_bound : (k : ℕ) → k ≤ 18 → 10 ^ k ≤ 1000000000000000000
ten_bound k h = omega (arith, ten_more k (18 - k), ap (λ n. 10 ^ n) (split k h))
  where
    split : (k : ℕ) → k ≤ 18 → k + (18 - k) ≡ 18
    split k h = omega arith

pub ten_fits : (k : ℕ) → k ≤ 18 → FitsSigned w64 (pos (10 ^ k))
ten_fits k h = record { sfits = omega (arith, ints, ten_bound k h) }
