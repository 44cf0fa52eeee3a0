-- The bits of a float, its key and its pattern, for both widths.
use Rattle.std.proofs.Common.{◌≡◌, ◌⊎◌, inl, inr, eqb, ◌&&◌, ◌/◌, ℕ, zero, suc, ◌+◌, ◌-◌, ◌*◌, ◌%◌, ◌^◌, ◌<◌, ◌≤◌, Bool, true, false, not}
use Rattle.std.proofs.Common.{T, cond, leb, ltb, refl, sym, ap, ◌∙◌, arith, subst, ℤ, pos, negsuc, to_z, of_z}
use Rattle.std.proofs.Common.{to_z-of_z, w32, w64, FitsSigned, int_lt, ◌-ℤ◌}
use Rattle.std.proofs.lemmas.Int.{ints}
use Rattle.std.specs.Prelude.{neg_ℤ, from_bits}
use Rattle.std.specs.Int.{Width}
use lib.Ieee.{Float, nan, inf, fin, Format, binary32, binary64, is_nan, to_bits, of_bits, eq}
use lib.Ieee.{prec, low, up, down, hid, top, size as digits, span, climb}
use Rattle.std.proofs.Math.Nat.{zero-div, zero-mul, mul-one}
use Rattle.std.proofs.lemmas.Bool.{eqb-true}
use Rattle.std.specs.Float.{float_is_finite, float_is_infinite}
use lib.Signed.{mag}
use lib.Ieee.Bits.{to_bits-of_bits, nan_bits_is, nan_bits_above}
use Rattle.vortex_logical.specs.FloatKeys.{key_of_bits, key_of_float, float_of_key, sign_weight}
use Rattle.vortex_float_bits.specs.FloatBits.{turned, is_zero}

abbrev pub width : Format → Width
width binary32 = w32
width binary64 = w64

-- the pattern of the infinity, and of a NaN
abbrev pub infinite : Format → ℕ
infinite binary32 = 2139095040
infinite binary64 = 9218868437227405312

abbrev pub nan_pattern : Format → ℕ
nan_pattern binary32 = 2143289344
nan_pattern binary64 = 9221120237041090560

above : (f : Format) (b : ℕ) → ltb (infinite f) (b % sign_weight f) ≡ is_nan (from_bits f b)
above binary32 b = sym (nan_bits_above binary32 b) ∙ nan_bits_is binary32 b
above binary64 b = sym (nan_bits_above binary64 b) ∙ nan_bits_is binary64 b

small : (f : Format) (n : ℕ) → n < sign_weight f → n ≡ n % sign_weight f
small binary32 n h = omega arith
small binary64 n h = omega arith

rest : (f : Format) (n : ℕ) → n < sign_weight f
    → sign_weight f - suc n ≡ of_z (width f) (negsuc n) % sign_weight f
rest binary32 n h = omega arith
rest binary64 n h = omega arith

abbrev pub least : Format → ℤ
least binary32 = negsuc 2147483647
least binary64 = negsuc 9223372036854775807

size : (f : Format) (z : ℤ) → FitsSigned (width f) z → mag z < sign_weight f
size binary32 z h = h.sfits
size binary64 z h = h.sfits

-- the bits below the sign's
pub size_of_pos : (f : Format) (z : ℤ) → FitsSigned (width f) z → int_lt z (pos 0) ≡ false
    → z ≡ pos (of_z (width f) z % sign_weight f)
size_of_pos f (pos n) h e = ap (λ k. pos k) (small f n (size f (pos n) h))
size_of_pos f (negsuc n) h e = cc

pub size_of_neg : (f : Format) (z : ℤ) → FitsSigned (width f) z → int_lt z (pos 0) ≡ true
    → z -ℤ least f ≡ pos (of_z (width f) z % sign_weight f)
size_of_neg f (pos n) h e = absurd (omega (arith, ints, e))
size_of_neg f (negsuc n) h e = by f (size f (negsuc n) h) ∙ ap (λ k. pos k) (rest f n (size f (negsuc n) h))
  where
    by : (f : Format) → n < sign_weight f → negsuc n -ℤ least f ≡ pos (sign_weight f - suc n)
    by binary32 h = omega (arith, ints)
    by binary64 h = omega (arith, ints)

-- a pattern is a NaN's where these are above the infinity's
pub nan_by_size : (f : Format) (b : ℕ) (s : ℤ) → s ≡ pos (b % sign_weight f)
    → int_lt (pos (infinite f)) s ≡ is_nan (from_bits f b)
nan_by_size f b s e = ap (λ y. int_lt (pos (infinite f)) y) e ∙ above f b

-- the bits of a number are read back
number_bits : (f : Format) (b : ℕ) → b < 2 * sign_weight f → is_nan (from_bits f b) ≡ false
    → to_bits f (from_bits f b) ≡ b
number_bits binary32 b h e = to_bits-of_bits binary32 b h (subst (λ k. T (not k)) (sym e) tt)
number_bits binary64 b h e = to_bits-of_bits binary64 b h (subst (λ k. T (not k)) (sym e) tt)

nan_bits : (f : Format) (x : Float) → is_nan x ≡ true → to_bits f x ≡ nan_pattern f
unfolding is_nan to_bits
nan_bits binary32 nan e = refl
nan_bits binary64 nan e = refl
nan_bits f (inf s) e = cc
nan_bits f (fin s m k) e = cc

pub held : (f : Format) (z : ℤ) → FitsSigned (width f) z → of_z (width f) z < 2 * sign_weight f
held binary32 (pos n) h = omega (arith, h.sfits)
held binary64 (pos n) h = omega (arith, h.sfits)
held binary32 (negsuc n) h = omega (arith, h.sfits)
held binary64 (negsuc n) h = omega (arith, h.sfits)

unsigned : (s n : ℕ) → n < s → leb s n ≡ false
unsigned s n h = grind (arith, h)

signed : (s b : ℕ) → s ≤ b → leb s b ≡ true
signed s b h = grind (arith, h)

turned_bits : (f : Format) (z : ℤ) → FitsSigned (width f) z
    → turned f z ≡ key_of_bits f (of_z (width f) z)
turned_bits f (pos n) h =
    sym (ap (λ b. cond b (neg_ℤ (pos (n - sign_weight f))) (pos n)) (unsigned (sign_weight f) n (size f (pos n) h)))
turned_bits f (negsuc n) h = by f (size f (negsuc n) h)
  where
    by : (f : Format) → n < sign_weight f
        → neg_ℤ (pos (sign_weight f - suc n)) ≡ key_of_bits f (of_z (width f) (negsuc n))
    by binary32 k =
        let b = 2 ^ 32 - suc n in
        ap (λ m. neg_ℤ (pos m)) (omega arith)
        ∙ sym (ap (λ c. cond c (neg_ℤ (pos (b - sign_weight binary32))) (pos b)) (signed (sign_weight binary32) b (omega arith)))
    by binary64 k =
        let b = 2 ^ 64 - suc n in
        ap (λ m. neg_ℤ (pos m)) (omega arith)
        ∙ sym (ap (λ c. cond c (neg_ℤ (pos (b - sign_weight binary64))) (pos b)) (signed (sign_weight binary64) b (omega arith)))

-- the key of a number's pattern, and of a NaN's
pub turned_is_key : (f : Format) (z : ℤ) → FitsSigned (width f) z
    → is_nan (from_bits f (of_z (width f) z)) ≡ false
    → turned f z ≡ key_of_float f (from_bits f (of_z (width f) z))
turned_is_key f z h e =
    turned_bits f z h
    ∙ ap (λ b. key_of_bits f b) (sym (number_bits f (of_z (width f) z) (held f z h) e))

pub nan_is_key : (f : Format) (x : Float) → is_nan x ≡ true → pos (nan_pattern f) ≡ key_of_float f x
nan_is_key binary32 x e = ap (λ b. key_of_bits binary32 b) (sym (nan_bits binary32 x e))
nan_is_key binary64 x e = ap (λ b. key_of_bits binary64 b) (sym (nan_bits binary64 x e))

-- the bits of the float that a key stands for
pub turned_back : (f : Format) (z : ℤ) → FitsSigned (width f) z
    → float_of_key f z ≡ from_bits f (of_z (width f) (turned f z))
turned_back binary32 (pos n) h = refl
turned_back binary64 (pos n) h = refl
turned_back f (negsuc n) h = by f (sign_weight f - suc n) refl (size f (negsuc n) h)
  where
    by : (f : Format) (k : ℕ) → sign_weight f - suc n ≡ k → n < sign_weight f
        → from_bits f ((suc n + sign_weight f) % (2 * sign_weight f))
        ≡ from_bits f (of_z (width f) (neg_ℤ (pos k)))
    by binary32 zero e s = ap (λ b. from_bits binary32 b) (omega arith)
    by binary64 zero e s = ap (λ b. from_bits binary64 b) (omega arith)
    by binary32 (suc k) e s = ap (λ b. from_bits binary32 b) (omega arith)
    by binary64 (suc k) e s = ap (λ b. from_bits binary64 b) (omega arith)

pub turned_fits : (f : Format) (z : ℤ) → FitsSigned (width f) z → FitsSigned (width f) (turned f z)
turned_fits f (pos n) h = h
turned_fits f (negsuc n) h = by f (sign_weight f - suc n) refl
  where
    by : (f : Format) (k : ℕ) → sign_weight f - suc n ≡ k → FitsSigned (width f) (neg_ℤ (pos k))
    by binary32 zero e = record { sfits = omega arith }
    by binary64 zero e = record { sfits = omega arith }
    by binary32 (suc k) e = record { sfits = omega arith }
    by binary64 (suc k) e = record { sfits = omega arith }

-- the pattern of the float that a key stands for
pub turned_is_pattern : (f : Format) (z : ℤ) → FitsSigned (width f) z
    → is_nan (from_bits f (of_z (width f) (turned f z))) ≡ false
    → turned f z ≡ to_z (width f) (to_bits f (float_of_key f z))
turned_is_pattern f z h e =
    let fits = turned_fits f z h in
    let b = of_z (width f) (turned f z) in
    sym (to_z-of_z fits)
    ∙ ap (λ k. to_z (width f) k) (sym (number_bits f b (held f (turned f z) fits) e))
    ∙ ap (λ x. to_z (width f) (to_bits f x)) (sym (turned_back f z h))

pub nan_is_pattern : (f : Format) (z : ℤ) → FitsSigned (width f) z
    → is_nan (from_bits f (of_z (width f) (turned f z))) ≡ true
    → pos (nan_pattern f) ≡ to_z (width f) (to_bits f (float_of_key f z))
nan_is_pattern f z h e =
    by f ∙ ap (λ k. to_z (width f) k) (sym (nan_bits f (from_bits f (of_z (width f) (turned f z))) e))
    ∙ ap (λ x. to_z (width f) (to_bits f x)) (sym (turned_back f z h))
  where
    by : (f : Format) → pos (nan_pattern f) ≡ to_z (width f) (nan_pattern f)
    by binary32 = refl
    by binary64 = refl

-- what the bits below the sign's say of a float of 64 bits
abbrev size_in : ℕ → ℕ
size_in b = b % sign_weight binary64

by_sign : (b k : ℕ) → b < 2 * sign_weight binary64 → size_in b ≡ k
    → (b ≡ k) ⊎ (b ≡ sign_weight binary64 + k)
by_sign b k h e = by (order b (sign_weight binary64))
  where
    order : (x y : ℕ) → (x < y) ⊎ (y ≤ x)
    order x y = grind arith

    by : (b < sign_weight binary64) ⊎ (sign_weight binary64 ≤ b)
        → (b ≡ k) ⊎ (b ≡ sign_weight binary64 + k)
    by (inl l) = inl (omega (arith, e, l))
    by (inr l) = inr (omega (arith, e, l, h))

infinite_bits : (s : Bool) → size_in (to_bits binary64 (inf s)) ≡ infinite binary64
unfolding to_bits
infinite_bits true = refl
infinite_bits false = refl

bits_by : Bool → ℕ → ℕ
bits_by s n =
    let k = digits n - prec binary64 in
    cond s (top binary64) 0 + k * hid binary64 + n / 2 ^ k

zero_bits : (s : Bool) (m : ℕ) (e : ℤ) → m * up e ≡ 0 → size_in (to_bits binary64 (fin s m e)) ≡ 0
unfolding to_bits digits span climb bits_by
zero_bits s m e h =
    ap (λ n. size_in (bits_by s n))
    (ap (λ x. x * 2 ^ low binary64 / down e) h ∙ ap (λ x. x / down e) (zero-mul (2 ^ low binary64)) ∙ zero-div (down e))
    ∙ by s
  where
    by : (s : Bool) → size_in (bits_by s 0) ≡ 0
    by true = refl
    by false = refl

infinite_float : (b : ℕ) → b < 2 * sign_weight binary64 → size_in b ≡ infinite binary64
    → float_is_infinite (from_bits binary64 b) ≡ true
unfolding float_is_infinite of_bits
infinite_float b h e = by (by_sign b (infinite binary64) h e)
  where
    by : (b ≡ infinite binary64) ⊎ (b ≡ sign_weight binary64 + infinite binary64)
        → float_is_infinite (from_bits binary64 b) ≡ true
    by (inl q) = ap (λ c. float_is_infinite (from_bits binary64 c)) q
    by (inr q) = ap (λ c. float_is_infinite (from_bits binary64 c)) q

zero_float : (b : ℕ) → b < 2 * sign_weight binary64 → size_in b ≡ 0
    → is_zero (from_bits binary64 b) ≡ true
unfolding eq of_bits
zero_float b h e = by (by_sign b 0 h e)
  where
    by : (b ≡ 0) ⊎ (b ≡ sign_weight binary64 + 0) → is_zero (from_bits binary64 b) ≡ true
    by (inl q) = ap (λ c. is_zero (from_bits binary64 c)) q
    by (inr q) = ap (λ c. is_zero (from_bits binary64 c)) q

zero_digits : (s : Bool) (m : ℕ) (e : ℤ) → is_zero (fin s m e) ≡ true → m * up e ≡ 0
unfolding eq
zero_digits s m e h =
    let same : eqb (m * up e * 1) (0 * 1 * down e) ≡ true = and_left _ _ h in
    sym (mul-one (m * up e)) ∙ eqb-true (m * up e * 1) (0 * 1 * down e) same ∙ zero-mul (down e)
  where
    and_left : (a b : Bool) → (a && b) ≡ true → a ≡ true
    and_left true b h = refl
    and_left false b h = h

opposed : (a : Bool) → a ≡ true → a ≡ false → ⊥
opposed a p q = cc

above_apart : (i s : ℕ) → ltb i s ≡ true → eqb s i ≡ false
above_apart i s h = grind (arith, h)

above_positive : (i s : ℕ) → ltb i s ≡ true → eqb s 0 ≡ false
above_positive i s h = grind (arith, h)

above_not_below : (i s : ℕ) → ltb i s ≡ true → ltb s i ≡ false
above_not_below i s h = grind (arith, h)

apart_below : (i s : ℕ) → ltb i s ≡ false → eqb s i ≡ false → ltb s i ≡ true
apart_below i s h k = grind (arith, h, k)

-- of a number, whose bits are read back
module _ (b : ℕ) (h : b < 2 * sign_weight binary64) where
  size_back : (v : Float) → from_bits binary64 b ≡ v → is_nan v ≡ false
      → size_in b ≡ size_in (to_bits binary64 v)
  size_back v e n =
      ap size_in (sym (number_bits binary64 b h (ap is_nan e ∙ n)) ∙ ap (to_bits binary64) e)

  over : (v : Float) → from_bits binary64 b ≡ v → ltb (infinite binary64) (size_in b) ≡ is_nan v
  over v e = above binary64 b ∙ ap is_nan e

  pub infinite_by_size : eqb (size_in b) (infinite binary64)
      ≡ float_is_infinite (from_bits binary64 b)
  unfolding is_nan float_is_infinite
  infinite_by_size = by (from_bits binary64 b) refl
    where
      by : (v : Float) → from_bits binary64 b ≡ v
          → eqb (size_in b) (infinite binary64) ≡ float_is_infinite v
      by nan e = above_apart (infinite binary64) (size_in b) (over nan e)
      by (inf s) e =
          ap (λ k. eqb k (infinite binary64)) (size_back (inf s) e refl ∙ infinite_bits s)
      by (fin s m x) e = no (eqb (size_in b) (infinite binary64)) refl
        where
          no : (t : Bool) → eqb (size_in b) (infinite binary64) ≡ t → t ≡ false
          no false q = refl
          no true q =
              absurd (opposed (float_is_infinite (from_bits binary64 b))
              (infinite_float b h (eqb-true (size_in b) (infinite binary64) q))
              (ap float_is_infinite e))

  pub finite_by_size : ltb (size_in b) (infinite binary64)
      ≡ float_is_finite (from_bits binary64 b)
  unfolding is_nan float_is_infinite float_is_finite
  finite_by_size = by (from_bits binary64 b) refl
    where
      by : (v : Float) → from_bits binary64 b ≡ v
          → ltb (size_in b) (infinite binary64) ≡ float_is_finite v
      by nan e = above_not_below (infinite binary64) (size_in b) (over nan e)
      by (inf s) e =
          ap (λ k. ltb k (infinite binary64)) (size_back (inf s) e refl ∙ infinite_bits s)
      by (fin s m x) e =
          apart_below (infinite binary64) (size_in b) (over (fin s m x) e)
          (infinite_by_size ∙ ap float_is_infinite e)

  pub zero_by_size : eqb (size_in b) 0 ≡ is_zero (from_bits binary64 b)
  unfolding is_nan eq
  zero_by_size = by (from_bits binary64 b) refl
    where
      by : (v : Float) → from_bits binary64 b ≡ v → eqb (size_in b) 0 ≡ is_zero v
      by nan e = above_positive (infinite binary64) (size_in b) (over nan e)
      by (inf s) e = ap (λ k. eqb k 0) (size_back (inf s) e refl ∙ infinite_bits s)
      by (fin s m x) e = told (is_zero (fin s m x)) refl
        where
          told : (t : Bool) → is_zero (fin s m x) ≡ t → eqb (size_in b) 0 ≡ t
          told true q =
              ap (λ k. eqb k 0)
              (size_back (fin s m x) e refl ∙ zero_bits s m x (zero_digits s m x q))
          told false q = no (eqb (size_in b) 0) refl
            where
              no : (t : Bool) → eqb (size_in b) 0 ≡ t → t ≡ false
              no false r = refl
              no true r =
                  absurd (opposed (is_zero (from_bits binary64 b))
                  (zero_float b h (eqb-true (size_in b) 0 r)) (ap is_zero e ∙ q))

-- the size as the code has it
pub sized : (f : Format) (z s : ℤ) → FitsSigned (width f) z
    → s ≡ pos (of_z (width f) (to_z (width f) (of_z (width f) z)) % sign_weight f)
    → s ≡ pos (of_z (width f) z % sign_weight f)
sized f z s h e = e ∙ ap (λ y. pos (of_z (width f) y % sign_weight f)) (to_z-of_z h)

pub said : (f : Format) (z s : ℤ) → FitsSigned (width f) z
    → s ≡ pos (of_z (width f) (to_z (width f) (of_z (width f) z)) % sign_weight f)
    → to_z (width f) (of_z (width f) s) ≡ pos (of_z (width f) z % sign_weight f)
said f z s h e =
    ap (λ y. to_z (width f) (of_z (width f) y)) (sized f z s h e)
    ∙ to_z-of_z (fits f (of_z (width f) z))
  where
    fits : (f : Format) (b : ℕ) → FitsSigned (width f) (pos (b % sign_weight f))
    fits binary32 b = record { sfits = omega arith }
    fits binary64 b = record { sfits = omega arith }

pub nan_told : (f : Format) (z s : ℤ) (t : Bool) → FitsSigned (width f) z
    → s ≡ pos (of_z (width f) (to_z (width f) (of_z (width f) z)) % sign_weight f)
    → int_lt (pos (infinite f)) (to_z (width f) (of_z (width f) s)) ≡ t
    → is_nan (from_bits f (of_z (width f) z)) ≡ t
nan_told f z s t h e q =
    sym (nan_by_size f (of_z (width f) z) (to_z (width f) (of_z (width f) s)) (said f z s h e)) ∙ q
