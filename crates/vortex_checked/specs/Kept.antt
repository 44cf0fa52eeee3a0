-- Wrapping keeps a number that the type holds.
use Rattle.std.specs.Prelude.{◌≡◌, ℕ, suc, ◌-◌, ◌^◌, ℤ, pos, negsuc, refl, Option, Some, None}
use Rattle.std.specs.Prelude.{int_lt, ◌||◌}
use Rattle.std.proofs.Common.{ap, sym, arith, cond, true, false, Bool}
use Rattle.std.specs.Int.{int_rem_euclid, int_wrap, Width}
use mir.Val.{hbits}
use Rattle.std.proofs.lemmas.Nat.{pow_pos}
use Rattle.std.proofs.lemmas.Int.{int_wrap_fits, ints}
use Rattle.std.proofs.Math.Nat.{mod-eq_of_lt}
use Rattle.vortex_checked.specs.Exact.{IsWithin, HasResult, is_outside, held_or_zero}

pub unsigned_keeps : (m : ℕ) (z : ℤ) → IsWithin (pos 0) (pos m) z
    → int_rem_euclid z (pos (suc m)) ≡ z
unsigned_keeps m (pos n) h = ap pos (mod-eq_of_lt (omega (arith, ints, h.1)))
unsigned_keeps m (negsuc n) h = absurd (omega (arith, ints, h.0))

pub signed_keeps : (w : Width) (z : ℤ)
    → IsWithin (negsuc (2 ^ hbits w - 1)) (pos (2 ^ hbits w - 1)) z → int_wrap w z ≡ z
signed_keeps w (pos n) h = int_wrap_fits w (pos n) (omega (arith, ints, h.1, pow_pos (hbits w)))
signed_keeps w (negsuc n) h =
    int_wrap_fits w (negsuc n) (omega (arith, ints, h.0, pow_pos (hbits w)))

outside_not : (least greatest z : ℤ) → IsWithin least greatest z
    → is_outside least greatest z ≡ false
outside_not least greatest z h = by (int_lt z least) (int_lt greatest z) refl refl
  where
    by : (p q : Bool) → int_lt z least ≡ p → int_lt greatest z ≡ q
        → is_outside least greatest z ≡ false
    by true q e f = absurd (omega (arith, ints, h.0, e))
    by false true e f = absurd (omega (arith, ints, h.1, f))
    by false false e f = λ i. e i || f i

-- where the type holds the result, it is returned
pub held_is : (least greatest : ℤ) (o : Option ℤ) → HasResult least greatest o
    → o ≡ Some (held_or_zero least greatest o)
held_is least greatest None h = absurd h
held_is least greatest (Some z) h =
    ap (λ b. Some (cond b (pos 0) z)) (sym (outside_not least greatest z h))
