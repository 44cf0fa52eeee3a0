-- The digits after the point, by the digits of a number with a 1 before them.
use Rattle.std.proofs.Common.{◌≡◌, ℕ, zero, suc, ◌+◌, ◌*◌, ◌/◌, ◌%◌, ◌^◌, ◌≤◌, ◌<◌, List, [], ◌∷◌, ◌++◌}
use Rattle.std.proofs.Common.{arith, refl, ap, ◌∙◌, sym, append_assoc}
use Rattle.std.specs.Fmt.{decimal}
use Rattle.std.proofs.Math.Nat.{mod-eq_of_lt, mul-add-mod_self_left, div-add-mod, mod-lt, mul_assoc}
use Rattle.std.proofs.lemmas.Fmt.{decimal_digit, decimal_step}
use lib.Pow.{pow-add}
use Rattle.vortex_logical.specs.DecimalTexts.{last_digits, magnitude_text}
use Rattle.vortex_logical.proofs.DecimalLaws.{ten_pos, ten_between}

pub ten_times : (k : ℕ) → 10 ^ suc k ≡ 10 * 10 ^ k
ten_times k = omega (arith, pow-add 10 1 k)

pub marked : (k n : ℕ) → k ≤ 18 → n < 10 ^ k → decimal (10 ^ k + n) ≡ 49 ∷ last_digits k n
marked zero n few h = ap decimal (omega (arith, h)) ∙ decimal_digit 1 (omega arith)
marked (suc k) n few h =
    decimal_step (10 ^ suc k + n) (omega (arith, ten_times k, ten_pos k))
    (omega (arith, h, (ten_between (suc k) few).1))
    ∙ (λ i. decimal (front i) ++ (48 + last i) ∷ [])
    ∙ ap (λ ds. ds ++ (48 + n % 10) ∷ []) (marked k (n / 10) (omega (arith, few)) (omega (arith, h, ten_times k)))
  where
    front : (10 ^ suc k + n) / 10 ≡ 10 ^ k + n / 10
    front = omega (arith, ten_times k)

    last : (10 ^ suc k + n) % 10 ≡ n % 10
    last = omega (arith, ten_times k)

-- n in terms of what is below 10 * q
rest_front : (q n : ℕ) → 0 < q → n % (10 * q) / 10 ≡ n / 10 % q
rest_front q n h =
    sym (mod-eq_of_lt small)
    ∙ sym (mul-add-mod_self_left q (n / (10 * q)) (n % (10 * q) / 10))
    ∙ ap (λ m. m % q) (omega (arith, div-add-mod n (10 * q), mul_assoc 10 q (n / (10 * q))))
  where
    small : n % (10 * q) / 10 < q
    small = omega (arith, mod-lt n {m = 10 * q} (omega (arith, h)))

rest_last : (q n : ℕ) → n % (10 * q) % 10 ≡ n % 10
rest_last q n = omega (arith, div-add-mod n (10 * q), mul_assoc 10 q (n / (10 * q)))

pub kept : (k n : ℕ) → last_digits k (n % 10 ^ k) ≡ last_digits k n
kept zero n = refl
kept (suc k) n =
    (λ i. last_digits k (n % ten_times k i / 10) ++ (48 + n % ten_times k i % 10) ∷ [])
    ∙ (λ i. last_digits k (rest_front (10 ^ k) n (ten_pos k) i) ++ (48 + rest_last (10 ^ k) n i) ∷ [])
    ∙ ap (λ ds. ds ++ (48 + n % 10) ∷ []) (kept k (n / 10))

pub magnitude_parts : (s n : ℕ) → 0 < s
    → decimal (n / 10 ^ s) ++ 46 ∷ last_digits s (n % 10 ^ s) ≡ magnitude_text s n
magnitude_parts zero n h = absurd (omega (arith, h))
magnitude_parts (suc s) n h = ap (λ ds. decimal (n / 10 ^ suc s) ++ 46 ∷ ds) (kept (suc s) n)

pub joined : (old one two new whole rest : List ℕ) → one ≡ old ++ whole → two ≡ one ++ 46 ∷ [] → new ≡ two ++ rest
    → new ≡ old ++ (whole ++ 46 ∷ rest)
joined old one two new whole rest p q r =
    r ∙ ap (λ bs. bs ++ rest) (q ∙ ap (λ bs. bs ++ 46 ∷ []) p)
    ∙ append_assoc (old ++ whole) (46 ∷ []) rest
    ∙ append_assoc old whole (46 ∷ rest)
