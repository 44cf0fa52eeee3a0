-- Stored integers, numbers of places, and digits of decimals, as the numbers that cells have.
use Rattle.std.specs.Prelude.{◌≡◌, ◌≤◌, ◌&&◌, ◌^◌, ◌+◌, ◌-◌, ℕ, zero, suc, ℤ, pos, negsuc}
use Rattle.std.specs.Prelude.{Bool, true, false, Option, Some, None, if◌then◌else◌, int_le, nat_le, refl}
use Rattle.std.specs.Prelude.{unsigned_abs}
use Rattle.std.proofs.Common.{ap, arith, cond}
use Rattle.std.proofs.Math.Nat.{le_refl, mul-le-mul}
use Rattle.std.proofs.lemmas.Int.{ints}
use lib.Pow.{pow-add}
use Rattle.vortex_interface.specs.Outcomes.{Outcome}
use Rattle.vortex_logical.specs.Digits.{Digits, digits_of}
use Rattle.vortex_sql_rows.specs.declared.faults.RowFault.TheVariants.{OtherValues}
use Rattle.vortex_sql_rows.specs.Faults.{faults_by}

-- of what the function takes
abbrev pub on_taken : {A : Type 0} → (A → Outcome) → Option A → Outcome
on_taken f (Some a) = f a
on_taken f None = faults_by OtherValues

-- the number, if it is one from the least to the greatest
abbrev pub from_to : ℕ → ℕ → ℤ → Option ℕ
from_to l g z =
    if int_le (pos l) z && int_le z (pos g) then Some (unsigned_abs z) else None

-- the digits of decimals of a precision and a scale, if there are such decimals
abbrev pub digits_with : Option ℕ → Option ℕ → Option Digits
digits_with (Some p) (Some s) = if nat_le s p then Some (digits_of p s) else None
digits_with p s = None

abbrev pub digits_in : ℤ → ℤ → Option Digits
digits_in p s = digits_with (from_to 1 18 p) (from_to 0 18 s)

pub within : (l g : ℕ) (z : ℤ) (k : ℕ) → from_to l g z ≡ Some k → (l ≤ k) × (k ≤ g)
within l g (pos m) k e = by (int_le (pos l) (pos m)) (int_le (pos m) (pos g)) refl refl e
  where
    by : (a b : Bool) → int_le (pos l) (pos m) ≡ a → int_le (pos m) (pos g) ≡ b
        → cond (a && b) (Some m) None ≡ Some k → (l ≤ k) × (k ≤ g)
    by true true f h i =
        let same : m ≡ k = cc in
        (grind (arith, ints, f, same), grind (arith, ints, h, same))
    by true false f h i = cc
    by false b f h i = cc
within l g (negsuc m) k e = cc

-- 10 to a power up to 18
pub ten_positive : (k : ℕ) → 1 ≤ 10 ^ k
ten_positive zero = omega arith
ten_positive (suc k) = omega (arith, ten_positive k, pow-add 10 k 1)

pub ten_more : (k j : ℕ) → 10 ^ k ≤ 10 ^ (k + j)
ten_more k j = omega (arith, pow-add 10 k j, mul-le-mul (le_refl (10 ^ k)) (ten_positive j))

pub ten_bound : (k : ℕ) → k ≤ 18 → 10 ^ k ≤ 1000000000000000000
ten_bound k h = omega (arith, ten_more k (18 - k), ap (λ n. 10 ^ n) (split k h))
  where
    split : (k : ℕ) → k ≤ 18 → k + (18 - k) ≡ 18
    split k h = omega arith

pub precision_bound : (p s : ℤ) (d : Digits) → digits_in p s ≡ Some d → d.precision ≤ 18
precision_bound p s d e = by (from_to 1 18 p) (from_to 0 18 s) refl e
  where
    chosen : (n k : ℕ) (b : Bool) → n ≤ 18 → cond b (Some (digits_of n k)) None ≡ Some d
        → d.precision ≤ 18
    chosen n k true h i =
        let same : n ≡ d.precision = cc in omega (arith, h, same)
    chosen n k false h i = cc

    by : (a b : Option ℕ) → from_to 1 18 p ≡ a → digits_with a b ≡ Some d → d.precision ≤ 18
    by (Some n) (Some k) f i = chosen n k (nat_le k n) (within 1 18 p n f).1 i
    by (Some n) None f i = cc
    by None b f i = cc
