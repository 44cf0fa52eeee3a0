-- One place more in a search for a text.
use Rattle.std.proofs.Common.{◌≡◌, ◌-◌, ◌<◌, ℕ, zero, suc, ℤ, None, ap, arith, refl}
use Rattle.std.specs.Option.{option_or}
use Rattle.vortex_float_texts.specs.declared.width.Width.{Width}
use Rattle.vortex_float_texts.specs.FloatTexts.{candidate_at, first_from}

pub first_step : (w : Width) (z : ℤ) (h p k : ℕ) → 0 < k
    → first_from w z h p k ≡ option_or (candidate_at w z h p k) (first_from w z h p (k - 1))
unfolding first_from
first_step w z h p zero l = absurd (omega (arith, l))
first_step w z h p (suc k) l =
    ap (λ j. option_or (candidate_at w z h p (suc k)) (first_from w z h p j)) (less k)
  where
    less : (k : ℕ) → k ≡ suc k - 1
    less k = omega arith

pub first_none : (w : Width) (z : ℤ) (h p : ℕ) → first_from w z h p 0 ≡ None
unfolding first_from
first_none w z h p = refl
