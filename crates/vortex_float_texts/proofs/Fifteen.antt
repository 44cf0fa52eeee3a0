-- The first 15 digits of a number, and numbers without their last digits.
use Rattle.std.proofs.Common.{◌≡◌, ◌≤◌, ◌<◌, ◌+◌, ◌-◌, ◌*◌, ◌/◌, ◌^◌, ◌∙◌, ℕ, zero, suc, Bool, true, false, length, ap, arith, cond, refl, subst, length-append}
use Rattle.std.proofs.Math.Nat.{div-div-eq-div-mul, div-lt_iff_lt-mul, div-eq_of_lt, le_refl, mul-le-mul}
use Rattle.std.proofs.lemmas.Fmt.{decimal_digit, decimal_step_wide, length-decimal-le_wide}
use Rattle.std.specs.Fmt.{decimal}
use lib.Pow.{pow-add}
use Rattle.vortex_float_texts.specs.declared.places.PlaceRounding.{PlaceRounding}
use Rattle.vortex_float_texts.specs.declared.places.PlaceRounding.TheVariants.{Half, Trunc}
use Rattle.vortex_float_texts.specs.Candidates.{front_of, nearest, rises}
use Rattle.vortex_float_texts.specs.Leading.{after_fifteen}
use Rattle.vortex_float_texts.specs.Places.{without}
use Rattle.vortex_float_texts.proofs.Powers.{ten_more, ten_positive}

-- a number with at most k digits
less_by_length : (k n : ℕ) → n < 10 ^ 64 → length (decimal n) ≤ k → n < 10 ^ k
less_by_length zero n h l = by (n - 9) refl
  where
    by : (m : ℕ) → n - 9 ≡ m → n < 10 ^ 0
    by zero e = absurd (omega (arith, l, ap length (decimal_digit n (omega (arith, e)))))
    by (suc m) e =
        absurd (omega (
          arith,
          l,
          ap length (decimal_step_wide n (omega (arith, e)) h)
              ∙ length-append (decimal (n / 10)) _,
        ))
less_by_length (suc k) n h l = by (less_by_length k (n / 10) (omega (arith, h))) (n - 9) refl
  where
    by : (length (decimal (n / 10)) ≤ k → n / 10 < 10 ^ k) → (m : ℕ) → n - 9 ≡ m → n < 10 ^ suc k
    by less zero e = omega (arith, e, pow-add 10 k 1, ten_positive k)
    by less (suc m) e =
        let step = ap length (decimal_step_wide n (omega (arith, e)) h) ∙ length-append (decimal (n / 10)) _ in
        omega (arith, pow-add 10 k 1, less (omega (arith, l, step)))

pub none_after : (n : ℕ) → n < 1000000000000000 → after_fifteen n ≡ 0
none_after n h =
    omega (arith, length-decimal-le_wide 15 n (omega arith) (omega (arith, h)) (omega (arith, h)))

ten_up : (a b : ℕ) → a ≤ b → 10 ^ a ≤ 10 ^ b
ten_up a b h =
    let same : a + (b - a) ≡ b = omega (arith, h) in
    subst (λ c. 10 ^ a ≤ 10 ^ c) same (ten_more a (b - a))

-- a number with no digit less
not_by_length : (n p m : ℕ) → 10 ^ p ≤ n → n < 10 ^ 64 → length (decimal n) - p ≡ m
    → length (decimal n) ≤ p + 1 → length (decimal n) ≡ p + 1
not_by_length n p zero k h e most =
    absurd (omega (arith, k, less_by_length p n h (omega (arith, e))))
not_by_length n p (suc m) k h e most = omega (arith, e, most)

pub some_after : (n p : ℕ) → p ≤ 10 → n < 10 ^ (15 + p) → 10 ^ (14 + p) ≤ n → after_fifteen n ≡ p
some_after n p l h k =
    let wide : n < 10 ^ 64 = omega (arith, h, ten_up (15 + p) 64 (omega (arith, l))) in
    let most = length-decimal-le_wide (15 + p) n (omega arith) h wide in
    omega (arith, not_by_length n (14 + p) _ k wide refl (omega (arith, most)))

-- 15 digits, or the next power of ten
pub nearest_small : (h j : ℕ) → h / 2 < 10 ^ (15 + j) → nearest h j ≤ 1000000000000000
nearest_small h j l = by (rises h j)
  where
    front : front_of h j < 1000000000000000
    front =
        let power : 10 ^ (15 + j) ≡ 1000000000000000 * 10 ^ j = pow-add 10 15 j in
        let less = (div-lt_iff_lt-mul {k = 10 ^ j} {x = h / 2} {y = 1000000000000000} (ten_positive j)).1 (omega (arith, l, power)) in
        subst (λ n. n < 1000000000000000) (div-div-eq-div-mul h 2 (10 ^ j)) less

    by : (b : Bool) → cond b (front_of h j + 1) (front_of h j) ≤ 1000000000000000
    by true = omega (arith, front)
    by false = omega (arith, front)

pub ten_limit : (k : ℕ) → k ≤ 19 → 10 ^ k ≤ 10000000000000000000
ten_limit k h = omega (arith, ten_more k (19 - k), ap (λ n. 10 ^ n) (split k h))
  where
    split : (k : ℕ) → k ≤ 19 → k + (19 - k) ≡ 19
    split k h = omega arith

pub half_least : (n q : ℕ) → 1 ≤ q → (n + q / 2) / q ≤ n
half_least n q h =
    let more = mul-le-mul (le_refl n) h in
    let below = (div-lt_iff_lt-mul {k = q} {x = n + q / 2} {y = n + 1} h).1 (omega (arith, more)) in
    omega (arith, below)

pub none_left : (r : PlaceRounding) (q d : ℕ) → 20 ≤ q → d < 18446744073709551616
    → without r q d ≡ 0
none_left r q d h l = by r (large q h)
  where
    large : (q : ℕ) → 20 ≤ q → 100000000000000000000 ≤ 10 ^ q
    large q h =
        let same : 20 + (q - 20) ≡ q = omega (arith, h) in
        subst (λ n. 100000000000000000000 ≤ 10 ^ n) same (ten_more 20 (q - 20))

    by : (r : PlaceRounding) → 100000000000000000000 ≤ 10 ^ q → without r q d ≡ 0
    by Half m = div-eq_of_lt (omega (arith, l, m))
    by Trunc m = div-eq_of_lt (omega (arith, l, m))

-- the search for the least power of ten above a number
pub limit_next : (p limit : ℕ) → limit ≡ 10 ^ (15 + p) → limit * 10 ≡ 10 ^ (15 + (p + 1))
limit_next p limit e =
    let same : (15 + p) + 1 ≡ 15 + (p + 1) = omega arith in
    subst (λ n. limit * 10 ≡ 10 ^ n) same (omega (arith, e, pow-add 10 (15 + p) 1))

pub past_next : (p limit n : ℕ) → limit ≡ 10 ^ (15 + p) → limit ≤ n → 10 ^ (14 + (p + 1)) ≤ n
past_next p limit n e h =
    let same : 15 + p ≡ 14 + (p + 1) = omega arith in
    subst (λ k. 10 ^ k ≤ n) same (omega (arith, e, h))

pub found : (n p : ℕ) → p ≤ 10 → n < 10 ^ (15 + p) → (0 < p → 10 ^ (14 + p) ≤ n)
    → after_fifteen n ≡ p
found n zero l h k = none_after n (omega (arith, h))
found n (suc p) l h k = some_after n (suc p) l h (k (omega arith))
