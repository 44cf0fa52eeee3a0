-- Big-endian numbers are ordered by their digits.
use Rattle.std.proofs.Common.{◌≡◌, ℕ, zero, suc, ◌+◌, ◌*◌, ◌^◌, ◌<◌, ◌≤◌, List, [], ◌∷◌, get_or}
use Rattle.std.proofs.Common.{refl, sym, ◌∙◌, ap, arith, inl, inr, ◌⊎◌, Fits, w8, rules}
use Rattle.std.proofs.Math.Nat.{mul-le-mul_right, pow-suc}
use Rattle.std.proofs.lemmas.Bool.{cases_order}
use Rattle.std.specs.Cmp.{nat_cmp_is}
use Rattle.std.specs.declared.cmp.Ordering.TheVariants.{Less, Equal, Greater}
use Rattle.std.specs.Ordering.{nat_cmp, ordering_then}

-- n bytes from byte i on, zero past the end
abbrev pub digits : ℕ → ℕ → List ℕ → ℕ
digits zero i xs = 0
digits (suc n) i xs = get_or xs i 0 * 256 ^ n + digits n (suc i) xs

abbrev pub AreBytes : List ℕ → Type 0
AreBytes xs = (i : ℕ) → get_or xs i 0 < 256

pub cmp_less : (x y : ℕ) → x < y → nat_cmp x y ≡ Less
cmp_less x y h = sym (nat_cmp_is x y Less h)

pub cmp_equal : (x y : ℕ) → x ≡ y → nat_cmp x y ≡ Equal
cmp_equal x y h = sym (nat_cmp_is x y Equal h)

pub cmp_greater : (x y : ℕ) → y < x → nat_cmp x y ≡ Greater
cmp_greater x y h = sym (nat_cmp_is x y Greater h)

pub digits-past : (n i x : ℕ) (xs : List ℕ) → digits n (suc i) (x ∷ xs) ≡ digits n i xs
digits-past zero i x xs = refl
digits-past (suc n) i x xs = ap (λ r. get_or xs i 0 * 256 ^ n + r) (digits-past n (suc i) x xs)

pub digits-none : (n i : ℕ) → digits n i [] ≡ 0
digits-none zero i = refl
digits-none (suc n) i = omega (arith, digits-none n (suc i))

below : (x r p : ℕ) → x < 256 → r < p → x * p + r < p * 256
below x r p h k = let m : x * p ≤ 255 * p = mul-le-mul_right p (omega arith) in omega (arith, m)

pub digits-below : (n i : ℕ) (xs : List ℕ) → AreBytes xs → digits n i xs < 256 ^ n
digits-below zero i xs h = omega arith
digits-below (suc n) i xs h =
    rw (pow-suc 256 n) (below _ _ _ (h i) (digits-below n (suc i) xs h))

apart : (x y a b p : ℕ) → x < y → a < p → x * p + a < y * p + b
apart x y a b p h k = let m : suc x * p ≤ y * p = mul-le-mul_right p (omega arith) in omega
    (arith, m)

shifted : (q r a b : ℕ) → q ≡ r → (a ≡ b) ⊎ ((a < b) ⊎ (b < a))
    → nat_cmp (q + a) (r + b) ≡ nat_cmp a b
shifted q r a b e (inl h) = cmp_equal (q + a) (r + b) (omega arith) ∙ sym (cmp_equal a b h)
shifted q r a b e (inr (inl h)) = cmp_less (q + a) (r + b) (omega arith) ∙ sym (cmp_less a b h)
shifted q r a b e (inr (inr h)) = cmp_greater (q + a) (r + b) (omega arith)
    ∙ sym (cmp_greater a b h)

decides : (x y a b p : ℕ) → a < p → b < p → (x ≡ y) ⊎ ((x < y) ⊎ (y < x))
    → nat_cmp (x * p + a) (y * p + b) ≡ ordering_then (nat_cmp x y) (nat_cmp a b)
decides x y a b p h k (inl e) =
    shifted (x * p) (y * p) a b (ap (λ z. z * p) e) (cases_order a b)
    ∙ ap (λ o. ordering_then o (nat_cmp a b)) (sym (cmp_equal x y e))
decides x y a b p h k (inr (inl l)) =
    cmp_less (x * p + a) (y * p + b) (apart x y a b p l h)
    ∙ ap (λ o. ordering_then o (nat_cmp a b)) (sym (cmp_less x y l))
decides x y a b p h k (inr (inr l)) =
    cmp_greater (x * p + a) (y * p + b) (apart y x b a p l k)
    ∙ ap (λ o. ordering_then o (nat_cmp a b)) (sym (cmp_greater x y l))

-- the first digit decides, else the others
pub first_decides : (x y a b p : ℕ) → a < p → b < p
    → nat_cmp (x * p + a) (y * p + b) ≡ ordering_then (nat_cmp x y) (nat_cmp a b)
first_decides x y a b p h k = decides x y a b p h k (cases_order x y)

same : (x y a b p : ℕ) → a < p → b < p → (x ≡ y) ⊎ ((x < y) ⊎ (y < x)) → x * p + a ≡ y * p + b
    → (x ≡ y) × (a ≡ b)
same x y a b p h k (inl e) s = (e, omega (arith, ap (λ z. z * p) e))
same x y a b p h k (inr (inl l)) s = absurd (omega (arith, apart x y a b p l h))
same x y a b p h k (inr (inr l)) s = absurd (omega (arith, apart y x b a p l k))

-- equal numbers have equal digits
pub same_first : (x y a b p : ℕ) → a < p → b < p → x * p + a ≡ y * p + b → (x ≡ y) × (a ≡ b)
same_first x y a b p h k s = same x y a b p h k (cases_order x y) s

fit : (x : ℕ) → Fits w8 x → x < 256
fit x h = search rules

-- a slice of bytes is determined by its bytes
pub are_bytes : (xs : List ℕ) → ((i : ℕ) → Fits w8 (get_or xs i 0)) → AreBytes xs
are_bytes xs h i = fit (get_or xs i 0) (h i)
