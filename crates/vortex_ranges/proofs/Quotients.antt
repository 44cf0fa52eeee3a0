-- A quotient lies between those of the ends, where the divisor's ends lie on one side of zero.
use Rattle.std.specs.Prelude.{◌≡◌, ◌≢◌, ℕ, zero, suc, ◌/◌, ◌≤◌, ◌≤ℤ◌, ◌<ℤ◌, ℤ, pos, negsuc}
use Rattle.std.specs.Prelude.{◌&&◌, ◌||◌, Bool, true, false, int_div, int_lt, Some, refl}
use Rattle.std.specs.Int.{int_min, int_max}
use Rattle.std.proofs.Common.{arith, le-div_iff_mul-le, div-mul-le_self, mul-le-mul_left}
use Rattle.std.proofs.Common.{le_trans, ◌⊎◌, inl, inr}
use Rattle.std.proofs.lemmas.Int.{ints, clamps}
use Rattle.vortex_checked.specs.Exact.{quotient}
use Rattle.vortex_ranges.specs.Arithmetic.{excludes_zero}

-- a quotient grows with its dividend, and shrinks as its divisor grows
grows : (m n k : ℕ) → m ≤ n → m / suc k ≤ n / suc k
grows m n k h =
    (le-div_iff_mul-le (omega arith)).1 (le_trans (div-mul-le_self m (suc k)) h)

shrinks : (n j k : ℕ) → j ≤ k → n / suc k ≤ n / suc j
shrinks n j k h =
    (le-div_iff_mul-le (omega arith)).1
    (le_trans (mul-le-mul_left (n / suc k) (omega (arith, h))) (div-mul-le_self n (suc k)))

-- a divisor above zero keeps the order of dividends, and one below turns it
keeps : (x y : ℤ) (k : ℕ) → x ≤ℤ y → int_div x (pos (suc k)) ≤ℤ int_div y (pos (suc k))
keeps (pos m) (pos n) k h = omega (arith, ints, grows m n k (omega (arith, ints, h)))
keeps (pos m) (negsuc n) k h = absurd (omega (arith, ints, h))
keeps (negsuc m) (pos n) k h = omega (arith, ints)
keeps (negsuc m) (negsuc n) k h =
    omega (arith, ints, grows (suc n) (suc m) k (omega (arith, ints, h)))

turns : (x y : ℤ) (k : ℕ) → x ≤ℤ y → int_div y (negsuc k) ≤ℤ int_div x (negsuc k)
turns (pos m) (pos n) k h = omega (arith, ints, grows m n k (omega (arith, ints, h)))
turns (pos m) (negsuc n) k h = absurd (omega (arith, ints, h))
turns (negsuc m) (pos n) k h = omega (arith, ints)
turns (negsuc m) (negsuc n) k h =
    omega (arith, ints, grows (suc n) (suc m) k (omega (arith, ints, h)))

-- the number lies between two, whichever is the greater
abbrev pub IsBetween : ℤ → ℤ → ℤ → Type 0
IsBetween a b z = (int_min a b ≤ℤ z) × (z ≤ℤ int_max a b)

-- by the dividend
pub by_dividend : (l h a d : ℤ) → l ≤ℤ a → a ≤ℤ h → d ≢ pos 0
    → IsBetween (int_div l d) (int_div h d) (int_div a d)
by_dividend l h a (pos zero) e f some = absurd (some refl)
by_dividend l h a (pos (suc k)) e f some =
    (omega (arith, ints, clamps, keeps l a k e), omega (arith, ints, clamps, keeps a h k f))
by_dividend l h a (negsuc k) e f some =
    (omega (arith, ints, clamps, turns a h k f), omega (arith, ints, clamps, turns l a k e))

-- by the divisor, above zero or below
positive : (a : ℤ) (l h k : ℕ) → l ≤ k → k ≤ h
    → IsBetween (int_div a (pos (suc l))) (int_div a (pos (suc h))) (int_div a (pos (suc k)))
positive (pos n) l h k e f = (
  omega (arith, ints, clamps, shrinks n k h f),
  omega (arith, ints, clamps, shrinks n l k e),
)
positive (negsuc n) l h k e f = (
  omega (arith, ints, clamps, shrinks (suc n) l k e),
  omega (arith, ints, clamps, shrinks (suc n) k h f),
)

negative : (a : ℤ) (l h k : ℕ) → k ≤ l → h ≤ k
    → IsBetween (int_div a (negsuc l)) (int_div a (negsuc h)) (int_div a (negsuc k))
negative (pos n) l h k e f = (
  omega (arith, ints, clamps, shrinks n h k f),
  omega (arith, ints, clamps, shrinks n k l e),
)
negative (negsuc n) l h k e f = (
  omega (arith, ints, clamps, shrinks (suc n) k l e),
  omega (arith, ints, clamps, shrinks (suc n) h k f),
)

-- both numbers lie above zero, or both below
abbrev OneSign : ℤ → ℤ → Type 0
OneSign l h = ((pos 0 <ℤ l) × (pos 0 <ℤ h)) ⊎ ((l <ℤ pos 0) × (h <ℤ pos 0))

one_sign : (l h : ℤ) → excludes_zero (l, h) ≡ true → OneSign l h
one_sign l h some =
    by (int_lt (pos 0) l) (int_lt (pos 0) h) (int_lt l (pos 0)) (int_lt h (pos 0)) refl refl refl
    refl some
  where
    by : (a b c d : Bool) → int_lt (pos 0) l ≡ a → int_lt (pos 0) h ≡ b → int_lt l (pos 0) ≡ c
        → int_lt h (pos 0) ≡ d → ((a && b) || (c && d)) ≡ true → OneSign l h
    by true true c d w x y z e = inl (omega (arith, ints, w), omega (arith, ints, x))
    by true false true true w x y z e = inr (omega (arith, ints, y), omega (arith, ints, z))
    by false b true true w x y z e = inr (omega (arith, ints, y), omega (arith, ints, z))
    by true false true false w x y z e = cc
    by true false false d w x y z e = cc
    by false b true false w x y z e = cc
    by false b false d w x y z e = cc

-- a divisor between two numbers of one sign
signed : (l h b a : ℤ) → l ≤ℤ b → b ≤ℤ h → OneSign l h
    → IsBetween (int_div a l) (int_div a h) (int_div a b)
signed (pos (suc l)) (pos (suc h)) (pos (suc k)) a e f s =
    positive a l h k (omega (arith, ints, e)) (omega (arith, ints, f))
signed (negsuc l) (negsuc h) (negsuc k) a e f s =
    negative a l h k (omega (arith, ints, e)) (omega (arith, ints, f))
signed l h (pos zero) a e f (inl s) = absurd (omega (arith, ints, e, s.0))
signed l h (pos zero) a e f (inr s) = absurd (omega (arith, ints, f, s.1))
signed (pos zero) h b a e f (inl s) = absurd (omega (arith, ints, s.0))
signed (negsuc l) h b a e f (inl s) = absurd (omega (arith, ints, s.0))
signed l (pos zero) b a e f (inl s) = absurd (omega (arith, ints, s.1))
signed l (negsuc h) b a e f (inl s) = absurd (omega (arith, ints, s.1))
signed l h (negsuc k) a e f (inl s) = absurd (omega (arith, ints, e, s.0))
signed (pos l) h b a e f (inr s) = absurd (omega (arith, ints, s.0))
signed l (pos h) b a e f (inr s) = absurd (omega (arith, ints, s.1))
signed l h (pos k) a e f (inr s) = absurd (omega (arith, ints, f, s.1))

pub by_divisor : (l h b a : ℤ) → l ≤ℤ b → b ≤ℤ h → excludes_zero (l, h) ≡ true
    → IsBetween (int_div a l) (int_div a h) (int_div a b)
by_divisor l h b a e f some = signed l h b a e f (one_sign l h some)

-- so it is not zero
not_zero : (l h b : ℤ) → l ≤ℤ b → b ≤ℤ h → OneSign l h → b ≡ pos 0 → ⊥
not_zero l h b e f (inl s) z = absurd (omega (arith, ints, e, s.0, z))
not_zero l h b e f (inr s) z = absurd (omega (arith, ints, f, s.1, z))

pub no_zero : (l h b : ℤ) → l ≤ℤ b → b ≤ℤ h → excludes_zero (l, h) ≡ true → b ≢ pos 0
no_zero l h b e f some = not_zero l h b e f (one_sign l h some)

-- there is a quotient, by a divisor other than zero
pub exact_quotient : (a b : ℤ) → b ≢ pos 0 → quotient a b ≡ Some (int_div a b)
exact_quotient a (pos zero) some = absurd (some refl)
exact_quotient a (pos (suc k)) some = refl
exact_quotient a (negsuc k) some = refl
