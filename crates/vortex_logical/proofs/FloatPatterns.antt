-- The floats of patterns: sizes in the order of their patterns.
use Rattle.std.proofs.Common.{◌≡◌, ◌⊎◌, inl, inr, ℕ, zero, suc, ◌+◌, ◌*◌, ◌/◌, ◌%◌, ◌^◌, ◌<◌, ◌≤◌, Bool}
use Rattle.std.proofs.Common.{false, not, T, eqb, refl, sym, arith, subst}
use Rattle.std.proofs.Math.Nat.{mul-lt-mul_of_pos_right}
use lib.Pow.{pow_pos, pow_mono}
use lib.Ieee.{inf, Format, binary32, binary64, of_fields, low, prec, odd, hid, ones}
use lib.Ieee.Exact.{HasValue, odd_sign}
use lib.Ieee.Bits.{cond_no}

-- the pattern of the infinity
abbrev pub infinite : Format → ℕ
infinite binary32 = 2139095040
infinite binary64 = 9218868437227405312

-- the size in units of the least value, by the fields of the exponent and of the digits
abbrev pub size_units : Format → ℕ → ℕ → ℕ
size_units f zero t = t * 2 ^ 0
size_units f (suc x) t = (hid f + t) * 2 ^ x

not_last : (a b : ℕ) → a < b → T (not (eqb a b))
not_last a b h = subst (λ c. T (not c)) (sym apart) tt
  where
    apart : eqb a b ≡ false
    apart = grind (arith, h)

pub field_value : (f : Format) (s : Bool) (x t : ℕ) → x < ones f
    → HasValue (of_fields f s x t) s (size_units f x t) (2 ^ low f)
unfolding of_fields
field_value f s zero t h = odd_sign (prec f) s t 0 (low f)
field_value f s (suc x) t h =
    subst (λ v. HasValue v s (size_units f (suc x) t) (2 ^ low f))
    (sym (cond_no (eqb (suc x) (ones f)) _ (odd (prec f) s (hid f + t) x (low f)) (not_last (suc x) (ones f) h)))
    (odd_sign (prec f) s (hid f + t) x (low f))

pub field_inf : (f : Format) (s : Bool) → of_fields f s (infinite f / hid f) (infinite f % hid f) ≡ inf s
unfolding of_fields
field_inf binary32 s = refl
field_inf binary64 s = refl

pub field_below : (f : Format) (n : ℕ) → n < infinite f → n / hid f < ones f
field_below binary32 n h = omega arith
field_below binary64 n h = omega arith

hid_pos : (f : Format) → 0 < hid f
hid_pos binary32 = omega arith
hid_pos binary64 = omega arith

double : (k j : ℕ) → k < j → 2 * 2 ^ k ≤ 2 ^ j
double k j h = omega (arith, pow_mono {i = suc k} {j = j} h)

from_none : (f : Format) (t u y : ℕ) → t < hid f → t * 2 ^ 0 < (hid f + u) * 2 ^ y
from_none binary32 t u y h = omega (arith, pow_pos y)
from_none binary64 t u y h = omega (arith, pow_pos y)

next_field : (f : Format) (x t y u : ℕ) → t < hid f → x < y → (hid f + t) * 2 ^ x < (hid f + u) * 2 ^ y
next_field binary32 x t y u p h = omega (arith, double x y h, mul-lt-mul_of_pos_right p (pow_pos x))
next_field binary64 x t y u p h = omega (arith, double x y h, mul-lt-mul_of_pos_right p (pow_pos x))

same_field : (f : Format) (x t u : ℕ) → t < u → (hid f + t) * 2 ^ x < (hid f + u) * 2 ^ x
same_field f x t u h = mul-lt-mul_of_pos_right more (pow_pos x)
  where
    more : hid f + t < hid f + u
    more = omega (arith, h)

units_lt : (f : Format) (x t y u : ℕ) → t < hid f → u < hid f → (x < y) ⊎ ((x ≡ y) × (t < u))
    → size_units f x t < size_units f y u
units_lt f zero t zero u p q (inl h) = absurd (omega (arith, h))
units_lt f zero t zero u p q (inr h) = omega (arith, h.1)
units_lt f zero t (suc y) u p q h = from_none f t u y p
units_lt f (suc x) t zero u p q (inl h) = absurd (omega (arith, h))
units_lt f (suc x) t zero u p q (inr h) = absurd (omega (arith, h.0))
units_lt f (suc x) t (suc y) u p q (inl h) = next_field f x t y u p (omega (arith, h))
units_lt f (suc x) t (suc y) u p q (inr h) =
    subst (λ z. (hid f + t) * 2 ^ x < (hid f + u) * 2 ^ z) same (same_field f x t u h.1)
  where
    same : x ≡ y
    same = omega (arith, h.0)

-- the same of whole patterns without their sign
abbrev pub pattern_units : Format → ℕ → ℕ
pattern_units f n = size_units f (n / hid f) (n % hid f)

rest_below : (f : Format) (n : ℕ) → n % hid f < hid f
rest_below binary32 n = omega arith
rest_below binary64 n = omega arith

split : (f : Format) (n m : ℕ) → n < m
    → (n / hid f < m / hid f) ⊎ ((n / hid f ≡ m / hid f) × (n % hid f < m % hid f))
split binary32 n m h = grind (arith, h)
split binary64 n m h = grind (arith, h)

pub pattern_lt : (f : Format) (n m : ℕ) → n < m → pattern_units f n < pattern_units f m
pattern_lt f n m h =
    units_lt f (n / hid f) (n % hid f) (m / hid f) (m % hid f) (rest_below f n) (rest_below f m) (split f n m h)
