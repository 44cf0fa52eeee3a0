-- A digit more, and a place less.
use Rattle.std.proofs.Common.{◌≡◌, ℕ, zero, suc, ◌+◌, ◌-◌, ◌*◌, ◌^◌, ◌≤◌, arith, ap}
use Rattle.std.proofs.Math.Nat.{mul-le-mul, le_refl}
use Rattle.vortex_logical.proofs.DecimalLaws.{ten_pos}
use Rattle.vortex_logical.proofs.DecimalWriting.{ten_times}

digit_at : (k n d : ℕ) → d ≤ 9 → n * 10 ^ suc k + 10 ^ suc k ≤ 1000000 → (n * 10 + d) * 10 ^ k + 10 ^ k ≤ 1000000
digit_at k n d few h =
    omega (arith, h, ten_times k, ap (λ p. n * p) (ten_times k), mul-le-mul few (le_refl (10 ^ k)))

pub one_digit : (left n d : ℕ) → ¬ (left ≡ 0) → d ≤ 9 → n * 10 ^ left + 10 ^ left ≤ 1000000
    → (n * 10 + d) * 10 ^ (left - 1) + 10 ^ (left - 1) ≤ 1000000
one_digit zero n d some few h = absurd (some (omega arith))
one_digit (suc k) n d some few h =
    let e : suc k - 1 ≡ k = omega arith in rw e (digit_at k n d few h)

pub number_small : (left n : ℕ) → n * 10 ^ left + 10 ^ left ≤ 1000000 → n ≤ 1000000
number_small left n h = omega (arith, h, mul-le-mul (le_refl n) (ten_pos left))
