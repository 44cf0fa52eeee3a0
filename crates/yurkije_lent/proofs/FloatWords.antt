-- Words of 64 comparisons of floats, in two halves.
use Rattle.std.proofs.Common.{◌≡◌, ◌⊎◌, inl, inr, ℕ, zero, suc, ◌+◌, ◌-◌, ◌*◌, ◌%◌, ◌^◌, ◌<◌, ◌≤◌}
use Rattle.std.proofs.Common.{Bool, true, false, cond, nat_eq, refl, sym, ap, ◌∙◌, arith, List, [], ◌∷◌}
use Rattle.std.proofs.Common.{length, map, take, drop, get_or, replicate, bit_or, subst, w64}
use Rattle.std.specs.Prelude.{int_lt, ◌||◌}
use Rattle.std.proofs.lemmas.List.{length-take, take_all, get_or-take, get_or-drop}
use Rattle.std.proofs.lemmas.Nat.Bits.{bit_at_cat_low, bit_at_cat_high, bit_at_above, bit_at-zero}
use Rattle.std.proofs.lemmas.Simd.{mask_l-mod, mask_l-lt, bit_mask_l, length-zip2, get_or-zip2}
use lib.Lanes.{Each1, mask_l, zip2, top}
use mir.Syntax.{w8}
use mir.Val.{to_z, of_z}
use Rattle.std.proofs.Common.{FitsSigned}
use Rattle.vortex_bits.specs.Bits.{bit}
use Rattle.vortex_bits.proofs.WordLogic.{or_bit}

one_is : (b : Bool) → nat_eq (cond b 1 0) 1 ≡ b
one_is true = refl
one_is false = refl

-- a mask of 64-bit lanes, narrowed to bytes
abbrev negative : ℕ → ℕ → ℕ
negative m z = cond (int_lt (to_z w64 m) (to_z w64 z)) (2 ^ 64 - 1) 0

abbrev byte_lane : ℕ → ℕ
byte_lane m = of_z w8 (to_z w64 m)

byte_top : (b : Bool) → top 7 (byte_lane (negative (cond b (2 ^ 64 - 1) 0) 0)) ≡ b
byte_top true = refl
byte_top false = refl

bytes_compared : {X : Type 0} (t : X → X → Bool) (xs ys : List X) (n : ℕ) → length xs ≡ n
    → map (top 7)
    (map byte_lane
    (zip2 negative (zip2 (λ a b. cond (t a b) (2 ^ 64 - 1) 0) xs ys) (replicate n 0)))
    ≡ zip2 t xs ys
bytes_compared t [] ys n e = refl
bytes_compared t (x ∷ xs) [] n e = refl
bytes_compared t (x ∷ xs) (y ∷ ys) zero e = absurd (omega (arith, e))
bytes_compared t (x ∷ xs) (y ∷ ys) (suc n) e =
    λ i. byte_top (t x y) i ∷ bytes_compared t xs ys n (omega (arith, e)) i

lane_fits : (b : Bool) → FitsSigned w8 (to_z w64 (negative (cond b (2 ^ 64 - 1) 0) 0))
lane_fits true = record { sfits = omega arith }
lane_fits false = record { sfits = omega arith }

fit : {X : Type 0} (t : X → X → Bool) (xs ys : List X) (n : ℕ)
    → Each1 (λ a. FitsSigned w8 (to_z w64 a))
    (zip2 negative (zip2 (λ a b. cond (t a b) (2 ^ 64 - 1) 0) xs ys) (replicate n 0))
fit t [] ys n = tt
fit t (x ∷ xs) [] n = tt
fit t (x ∷ xs) (y ∷ ys) zero = tt
fit t (x ∷ xs) (y ∷ ys) (suc n) = (lane_fits (t x y), fit t xs ys n)

-- such lanes fit bytes
pub lanes_fit : {X : Type 0} (t : X → X → Bool) (xs ys : List X)
    → Each1 (λ a. FitsSigned w8 (to_z w64 a))
    (zip2 negative (zip2 (λ a b. cond (t a b) (2 ^ 64 - 1) 0) xs ys) (replicate 32 0))
lanes_fit t xs ys = fit t xs ys 32

-- the word of 32 lanes
abbrev pub half_word : {X : Type 0} → (X → X → Bool) → List X → List X → ℕ
half_word t xs ys =
    mask_l
    (map (top 7)
    (map byte_lane
    (zip2 negative (zip2 (λ a b. cond (t a b) (2 ^ 64 - 1) 0) xs ys) (replicate 32 0))))
    % 2 ^ 64

module _ {X : Type 0} (t : X → X → Bool) (xs ys : List X) (e : length xs ≡ 32)
    (f : length ys ≡ 32) where
  whole : half_word t (take 32 xs) (take 32 ys) ≡ mask_l (zip2 t xs ys)
  whole =
      (λ i. half_word t (take_all 32 xs (omega (arith, e)) i) (take_all 32 ys (omega (arith, f)) i))
      ∙ ap (λ m. mask_l m % 2 ^ 64) (bytes_compared t xs ys 32 e)
      ∙ mask_l-mod (zip2 t xs ys) 64 (omega (arith, length-zip2 t xs ys (e ∙ sym f), e))

  pub half_size : half_word t (take 32 xs) (take 32 ys) < 2 ^ 32
  half_size =
      subst (λ m. m < 2 ^ 32) (sym whole)
      (subst (λ n. mask_l (zip2 t xs ys) < 2 ^ n) (length-zip2 t xs ys (e ∙ sym f) ∙ e)
      (mask_l-lt (zip2 t xs ys)))

  pub half_each : (d : X) (j : ℕ) → j < 32
      → bit (half_word t (take 32 xs) (take 32 ys)) j ≡ t (get_or xs j d) (get_or ys j d)
  half_each d j lt =
      ap (λ m. bit m j) whole
      ∙ ap (λ m. nat_eq m 1) (bit_mask_l (zip2 t xs ys) j)
      ∙ one_is _
      ∙ get_or-zip2 t xs ys j d d false (omega (arith, e, lt)) (omega (arith, f, lt))

pub half_taken : {X : Type 0} (xs : List X) → length xs ≡ 64 → length (take 32 xs) ≡ 32
half_taken xs e = omega (arith, e, length-take 32 xs)

-- two halves in one word
low_half : (low high j : ℕ) → low < 4294967296 → high < 4294967296 → j < 32
    → bit (bit_or low (high * 4294967296 % 18446744073709551616)) j ≡ bit low j
low_half low high j h k lt =
    or_bit low (high * 4294967296 % 18446744073709551616) j
    ∙ ap (λ m. bit low j || bit m j) (omega (arith, k))
    ∙ ap (λ n. bit low j || nat_eq n 1) (bit_at_cat_low high 32 0 j lt ∙ bit_at-zero j)
    ∙ same (bit low j)
  where
    same : (b : Bool) → (b || false) ≡ b
    same true = refl
    same false = refl

high_half : (low high j : ℕ) → low < 4294967296 → high < 4294967296 → 32 ≤ j
    → bit (bit_or low (high * 4294967296 % 18446744073709551616)) j ≡ bit high (j - 32)
high_half low high j h k le =
    or_bit low (high * 4294967296 % 18446744073709551616) j
    ∙ ap (λ m. bit low j || bit m j) (omega (arith, k))
    ∙ ap (λ n. nat_eq n 1 || bit (high * 2 ^ 32 + 0) j) (bit_at_above low 32 j h le)
    ∙ ap (λ n. nat_eq n 1) (bit_at_cat_high high 32 0 j (omega arith) le)

below_or_from : (n j : ℕ) → (j < n) ⊎ (n ≤ j)
below_or_from n j = grind arith

module _ {X : Type 0} (t : X → X → Bool) (d : X) (xs ys : List X) (e : length xs ≡ 64)
    (f : length ys ≡ 64) (low high : ℕ) (h : low < 2 ^ 32) (k : high < 2 ^ 32)
    (lows : (j : ℕ) → j < 32
    → bit low j ≡ t (get_or (take 32 xs) j d) (get_or (take 32 ys) j d))
    (highs : (j : ℕ) → j < 32
    → bit high j
    ≡ t (get_or (take (length xs - 32) (drop 32 xs)) j d)
    (get_or (take (length ys - 32) (drop 32 ys)) j d)) where
  pub halves : (j : ℕ) → j < 64
      → bit (bit_or low (high * 4294967296 % 18446744073709551616)) j
      ≡ t (get_or xs j d) (get_or ys j d)
  halves j lt = by (below_or_from 32 j)
    where
      by : (j < 32) ⊎ (32 ≤ j)
          → bit (bit_or low (high * 4294967296 % 18446744073709551616)) j
          ≡ t (get_or xs j d) (get_or ys j d)
      by (inl l) =
          low_half low high j h k l
          ∙ lows j l
          ∙ (λ i. t (get_or-take 32 xs j d l i) (get_or-take 32 ys j d l i))
      by (inr l) =
          high_half low high j h k l
          ∙ highs (j - 32) (omega (arith, lt, l))
          ∙ (λ i.
          t
          (get_or-take (length xs - 32) (drop 32 xs) (j - 32) d (omega (arith, e, lt, l)) i)
          (get_or-take (length ys - 32) (drop 32 ys) (j - 32) d (omega (arith, f, lt, l)) i))
          ∙ (λ i. t (get_or-drop 32 xs (j - 32) d i) (get_or-drop 32 ys (j - 32) d i))
          ∙ ap (λ n. t (get_or xs n d) (get_or ys n d)) (omega (arith, l))
