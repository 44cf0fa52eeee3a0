-- The first bytes of values, from the first digits of their words.
use Rattle.std.proofs.Common.{◌≡◌, ℕ, zero, suc, ◌+◌, ◌-◌, ◌*◌, ◌/◌, ◌^◌, ◌<◌, ◌≤◌, List, length}
use Rattle.std.proofs.Common.{take, get_or, sym, ◌∙◌, ap, subst, arith, refl}
use Rattle.std.proofs.Math.Nat.{mul_assoc, mul-add-div_right, pow-suc}
use Rattle.std.proofs.lemmas.Nat.{div-mul-add, pow-add, pow_pos}
use Rattle.vortex_views.proofs.Digits.{digits, AreBytes, digits-below}
use Rattle.vortex_views.proofs.ByteOrder.{same_start, same_words}

pub of_bits : (k : ℕ) → 256 ^ k ≡ 2 ^ (8 * k)
of_bits zero = refl
of_bits (suc k) =
    pow-suc 256 k ∙ ap (λ z. z * 256) (of_bits k) ∙ sym (pow-add 2 (8 * k) 8)
    ∙ ap (λ z. 2 ^ z) (omega arith)

pub positive : (k : ℕ) → 0 < 256 ^ k
positive k = subst (λ z. 0 < z) (sym (of_bits k)) (pow_pos (8 * k))

pub small : (d p : ℕ) → d < p → d / p ≡ 0
small d p h = ap (λ z. z / p) (omega arith) ∙ div-mul-add 0 p d h

shifted : (g a d p : ℕ) → 0 < p → (g * (a * p) + d) / p ≡ g * a + d / p
shifted g a d p pos =
    ap (λ z. (z + d) / p) (sym (mul_assoc g a p)) ∙ mul-add-div_right pos (g * a) d

-- the first n of t digits
pub first_digits : (n t i : ℕ) (xs : List ℕ) → AreBytes xs → n ≤ t
    → digits t i xs / 256 ^ (t - n) ≡ digits n i xs
first_digits zero t i xs h le =
    let same : t ≡ t - 0 = omega arith in
    small (digits t i xs) (256 ^ (t - 0))
    (subst (λ k. digits t i xs < 256 ^ k) same (digits-below t i xs h))
first_digits (suc n) zero i xs h le = absurd (omega arith)
first_digits (suc n) (suc t) i xs h le =
    let g = get_or xs i 0 in
    let d = digits t (suc i) xs in
    let p = 256 ^ (t - n) in
    let places : suc t - suc n ≡ t - n = omega arith in
    let parts : t ≡ n + (t - n) = omega arith in
    ap (λ k. (g * 256 ^ t + d) / 256 ^ k) places
    ∙ ap (λ q. (g * q + d) / p) (ap (λ k. 256 ^ k) parts ∙ pow-add 256 n (t - n))
    ∙ shifted g (256 ^ n) d p (positive (t - n))
    ∙ ap (λ z. g * 256 ^ n + z) (first_digits n t (suc i) xs h (omega arith))

-- equal first digits of two words come from equal first bytes
pub same_first_bytes : (n t x y : ℕ) (xs ys : List ℕ) → AreBytes xs → AreBytes ys → n ≤ t
    → n ≤ length xs → n ≤ length ys → x ≡ digits t 0 xs → y ≡ digits t 0 ys
    → x / 256 ^ (t - n) ≡ y / 256 ^ (t - n) → take n xs ≡ take n ys
same_first_bytes n t x y xs ys h k le p q d e same =
    same_start n xs ys h k p q
    (sym (first_digits n t 0 xs h le) ∙ ap (λ z. z / 256 ^ (t - n)) (sym d) ∙ same
    ∙ ap (λ z. z / 256 ^ (t - n)) e ∙ first_digits n t 0 ys k le)

-- and back
pub same_first_words : (n t x y : ℕ) (xs ys : List ℕ) → AreBytes xs → AreBytes ys → n ≤ t
    → x ≡ digits t 0 xs → y ≡ digits t 0 ys → take n xs ≡ take n ys
    → x / 256 ^ (t - n) ≡ y / 256 ^ (t - n)
same_first_words n t x y xs ys h k le d e same =
    ap (λ z. z / 256 ^ (t - n)) d ∙ first_digits n t 0 xs h le ∙ same_words n xs ys same
    ∙ sym (first_digits n t 0 ys k le) ∙ ap (λ z. z / 256 ^ (t - n)) (sym e)
