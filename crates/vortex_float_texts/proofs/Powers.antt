-- Powers that fit.
use Rattle.std.proofs.Common.{◌≡◌, ◌≤◌, ◌<◌, ◌+◌, ◌-◌, ◌*◌, ◌^◌, ℕ, zero, suc, ap, arith}
use Rattle.std.proofs.Math.Nat.{le_refl, mul-le-mul}
use lib.Pow.{pow-add}

pub ten_positive : (k : ℕ) → 1 ≤ 10 ^ k
ten_positive zero = omega arith
ten_positive (suc k) = omega (arith, ten_positive k, pow-add 10 k 1)

pub ten_more : (k j : ℕ) → 10 ^ k ≤ 10 ^ (k + j)
ten_more k j = omega (arith, pow-add 10 k j, mul-le-mul (le_refl (10 ^ k)) (ten_positive j))

pub ten_bound : (k : ℕ) → k ≤ 18 → 10 ^ k ≤ 1000000000000000000
ten_bound k h = omega (arith, ten_more k (18 - k), ap (λ n. 10 ^ n) (split k h))
  where
    split : (k : ℕ) → k ≤ 18 → k + (18 - k) ≡ 18
    split k h = omega arith

pub two_positive : (k : ℕ) → 1 ≤ 2 ^ k
two_positive zero = omega arith
two_positive (suc k) = omega (arith, two_positive k, pow-add 2 k 1)

two_more : (k j : ℕ) → 2 ^ k ≤ 2 ^ (k + j)
two_more k j = omega (arith, pow-add 2 k j, mul-le-mul (le_refl (2 ^ k)) (two_positive j))

pub two_bound : (k : ℕ) → k ≤ 126 → 2 ^ k ≤ 85070591730234615865843651857942052864
two_bound k h = omega (arith, two_more k (126 - k), ap (λ n. 2 ^ n) (split k h))
  where
    split : (k : ℕ) → k ≤ 126 → k + (126 - k) ≡ 126
    split k h = omega arith

pub two_least : (k : ℕ) → 46 ≤ k → 70368744177664 ≤ 2 ^ k
two_least k h = omega (arith, two_more 46 (k - 46), ap (λ n. 2 ^ n) (split k h))
  where
    split : (k : ℕ) → 46 ≤ k → 46 + (k - 46) ≡ k
    split k h = omega arith
