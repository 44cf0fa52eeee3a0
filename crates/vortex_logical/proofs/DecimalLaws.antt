-- The laws of decimals.
use Rattle.std.proofs.Common.{◌≡◌, ◌⊎◌, ℕ, ℤ, pos, negsuc, ◌*◌, ◌+◌, ◌-◌, ◌^◌, ◌<◌, ◌≤◌, arith, refl}
use Rattle.std.proofs.Common.{sym, ap, ◌∙◌, inl, inr, zero, suc, FitsSigned, w64}
use Rattle.std.proofs.Math.Nat.{mul_assoc, mul_comm, add_comm, mul-lt-mul_of_pos_right, mul-le-mul}
use Rattle.std.proofs.Math.Nat.{le_refl, zero-mul}
use Rattle.std.specs.Prelude.{◌*ℤ◌, ◌<ℤ◌, neg_ℤ}
use Rattle.std.specs.Ordering.{int_cmp}
use Rattle.std.proofs.lemmas.Int.{ints}
use lib.Pow.{pow-add}
use borrow.Author.Differences.{below_in, lt_out, product_is}
use Rattle.vortex_logical.specs.Decimals.{shifted, RescalingKeeps}
use Rattle.vortex_logical.specs.Decimals.{RescalingOrders}

pub ten_pos : (k : ℕ) → 0 < 10 ^ k
ten_pos zero = omega arith
ten_pos (suc k) = omega (arith, ten_pos k, pow-add 10 k 1)

pub ten_more : (k j : ℕ) → 10 ^ k ≤ 10 ^ (k + j)
ten_more k j = omega (arith, pow-add 10 k j, mul-le-mul (le_refl (10 ^ k)) (ten_pos j))

ten_bound : (k : ℕ) → k ≤ 18 → 10 ^ k ≤ 1000000000000000000
ten_bound k h = omega (arith, ten_more k (18 - k), ap (λ n. 10 ^ n) (split k h))
  where
    split : (k : ℕ) → k ≤ 18 → k + (18 - k) ≡ 18
    split k h = omega arith

pub ten_between : (k : ℕ) → k ≤ 18 → (1 ≤ 10 ^ k) × (10 ^ k ≤ 1000000000000000000)
ten_between k h = (omega (arith, ten_pos k), ten_bound k h)

pub ten_fits : (k : ℕ) → k ≤ 18 → FitsSigned w64 (pos (10 ^ k))
ten_fits k h = record { sfits = omega (arith, ints, ten_bound k h) }

negative_scaled : (n q : ℕ) → neg_ℤ (pos n) *ℤ pos q ≡ neg_ℤ (pos (n * q))
negative_scaled zero q = ap (λ k. pos k) (zero-mul q) ∙ sym (ap (λ k. neg_ℤ (pos k)) (zero-mul q))
negative_scaled (suc n) q = refl

turned : (a p q : ℕ) → a * p * q ≡ a * (q * p)
turned a p q = mul_assoc a p q ∙ ap (λ n. a * n) (mul_comm p q)

scaled_scaled : (m : ℤ) (p q : ℕ) → (m *ℤ pos p) *ℤ pos q ≡ m *ℤ pos (q * p)
scaled_scaled (pos a) p q = ap (λ n. pos n) (turned a p q)
scaled_scaled (negsuc a) p q =
    negative_scaled (suc a * p) q ∙ ap (λ n. neg_ℤ (pos n)) (turned (suc a) p q)

split : (s t : ℕ) → s ≤ t → s + (t - s) ≡ t
split s t h = omega arith

pub keeps : RescalingKeeps
keeps m s t h =
    ap (λ u. m *ℤ pos (10 ^ u)) (sym (split s t h))
    ∙ ap (λ p. m *ℤ pos p) (pow-add 10 s (t - s))
    ∙ sym (scaled_scaled m (10 ^ (t - s)) (10 ^ s))

scaled_lt : (x y : ℤ) (p : ℕ) → 0 < p → x <ℤ y → (x *ℤ pos p) <ℤ (y *ℤ pos p)
scaled_lt x y p P h =
    below_in (x *ℤ pos p) (y *ℤ pos p)
    (omega (arith, product_is x (pos p), product_is y (pos p), mul-lt-mul_of_pos_right (lt_out x y h) P))

cases : (x y : ℤ) → (x <ℤ y) ⊎ ((x ≡ y) ⊎ (y <ℤ x))
cases x y = grind (arith, ints)

less : (x y : ℤ) → x <ℤ y → (u v : ℤ) → u <ℤ v → int_cmp u v ≡ int_cmp x y
less x y h u v k = grind (arith, ints)

greater : (x y : ℤ) → y <ℤ x → (u v : ℤ) → v <ℤ u → int_cmp u v ≡ int_cmp x y
greater x y h u v k = grind (arith, ints)

level : (x y u v : ℤ) → x ≡ y → u ≡ v → int_cmp u v ≡ int_cmp x y
level x y u v h k = grind (arith, ints)

pub scaled_cmp : (x y : ℤ) (p : ℕ) → 0 < p → int_cmp (x *ℤ pos p) (y *ℤ pos p) ≡ int_cmp x y
scaled_cmp x y p P = by (cases x y)
  where
    by : (x <ℤ y) ⊎ ((x ≡ y) ⊎ (y <ℤ x)) → int_cmp (x *ℤ pos p) (y *ℤ pos p) ≡ int_cmp x y
    by (inl h) = less x y h (x *ℤ pos p) (y *ℤ pos p) (scaled_lt x y p P h)
    by (inr (inl h)) = level x y (x *ℤ pos p) (y *ℤ pos p) h (ap (λ z. z *ℤ pos p) h)
    by (inr (inr h)) = greater x y h (x *ℤ pos p) (y *ℤ pos p) (scaled_lt y x p P h)

-- m * 10 ^ (u - s), times 10 ^ (s + t), is m * 10 ^ t times 10 ^ u
widened : (m : ℤ) (s t u : ℕ) → s ≤ u → shifted m (u - s) *ℤ pos (10 ^ (s + t)) ≡ shifted m t *ℤ pos (10 ^ u)
widened m s t u h =
    scaled_scaled m (10 ^ (u - s)) (10 ^ (s + t))
    ∙ ap (λ p. m *ℤ pos p) (sym (pow-add 10 (s + t) (u - s)) ∙ ap (λ k. 10 ^ k) (sum s t u h) ∙ pow-add 10 u t)
    ∙ sym (scaled_scaled m (10 ^ t) (10 ^ u))
  where
    sum : (s t u : ℕ) → s ≤ u → s + t + (u - s) ≡ u + t
    sum s t u h = omega arith

pub orders : RescalingOrders
orders m n s t u g h =
    sym (scaled_cmp (shifted m (u - s)) (shifted n (u - t)) (10 ^ (s + t)) (ten_pos (s + t)))
    ∙ (λ i. int_cmp (widened m s t u g i) (same i))
    ∙ scaled_cmp (shifted m t) (shifted n s) (10 ^ u) (ten_pos u)
  where
    same : shifted n (u - t) *ℤ pos (10 ^ (s + t)) ≡ shifted n s *ℤ pos (10 ^ u)
    same = ap (λ k. shifted n (u - t) *ℤ pos (10 ^ k)) (add_comm s t) ∙ widened n t s u h
