-- A digit more, and a place less.
use Rattle.std.proofs.Common.{◌≡◌, ◌∙◌, ◌+◌, ◌-◌, ◌*◌, ◌^◌, ◌≤◌, ◌∷◌, ℕ, zero, suc, [], List, true, false, ap, arith, cond, refl}
use Rattle.std.specs.Char.{is_ascii_digit}
use Rattle.std.proofs.Math.Nat.{mul-le-mul, le_refl}
use lib.Pow.{pow-add}
use Rattle.vortex_sql_date_formats.specs.ReadDigits.{digits_from}

ten_times : (k : ℕ) → 10 ^ suc k ≡ 10 * 10 ^ k
ten_times k = omega (arith, pow-add 10 k 1)

ten_pos : (k : ℕ) → 1 ≤ 10 ^ k
ten_pos zero = omega arith
ten_pos (suc k) = omega (arith, ten_pos k, ten_times k)

digit_at : (k n d : ℕ) → d ≤ 9 → n * 10 ^ suc k + 10 ^ suc k ≤ 1000000
    → (n * 10 + d) * 10 ^ k + 10 ^ k ≤ 1000000
digit_at k n d few h =
    omega (arith, h, ten_times k, ap (λ p. n * p) (ten_times k), mul-le-mul few (le_refl (10 ^ k)))

pub one_digit : (left n d : ℕ) → ¬ (left ≡ 0) → d ≤ 9 → n * 10 ^ left + 10 ^ left ≤ 1000000
    → (n * 10 + d) * 10 ^ (left - 1) + 10 ^ (left - 1) ≤ 1000000
one_digit zero n d some few h = absurd (some (omega arith))
one_digit (suc k) n d some few h =
    let e : suc k - 1 ≡ k = omega arith in rw e (digit_at k n d few h)

pub number_small : (left n : ℕ) → n * 10 ^ left + 10 ^ left ≤ 1000000 → n ≤ 1000000
number_small left n h = omega (arith, h, mul-le-mul (le_refl n) (ten_pos left))

pub ten_bound : (w : ℕ) → w ≤ 6 → 10 ^ w ≤ 1000000
ten_bound w h =
    let six : w + (6 - w) ≡ 6 = omega arith in
    omega (arith, ap (λ n. 10 ^ n) six, pow-add 10 w (6 - w), mul-le-mul (le_refl (10 ^ w)) (ten_pos (6 - w)))

pub no_digits_yet : (w : ℕ) → w ≤ 6 → 0 * 10 ^ w + 10 ^ w ≤ 1000000
no_digits_yet w h = omega (arith, ten_bound w h)

pub stopped : (left n : ℕ) (xs : List ℕ) → left ≡ 0 → digits_from left n xs ≡ (n, left, xs)
stopped left n [] e = refl
stopped zero n (b ∷ bs) e = refl
stopped (suc k) n (b ∷ bs) e = absurd (omega arith)

pub no_digit : (left n b : ℕ) (bs : List ℕ) → is_ascii_digit b ≡ false
    → digits_from left n (b ∷ bs) ≡ (n, left, b ∷ bs)
no_digit zero n b bs e = refl
no_digit (suc k) n b bs e =
    ap (λ c. cond c (digits_from k (n * 10 + (b - 48)) bs) (n, suc k, b ∷ bs)) e

pub one_more : (left n b : ℕ) (bs : List ℕ) → ¬ (left ≡ 0) → is_ascii_digit b ≡ true
    → digits_from left n (b ∷ bs) ≡ digits_from (left - 1) (n * 10 + (b - 48)) bs
one_more zero n b bs some e = absurd (some refl)
one_more (suc k) n b bs some e =
    let same : k ≡ suc k - 1 = omega arith in
    ap (λ c. cond c (digits_from k (n * 10 + (b - 48)) bs) (n, suc k, b ∷ bs)) e
    ∙ ap (λ j. digits_from j (n * 10 + (b - 48)) bs) same
