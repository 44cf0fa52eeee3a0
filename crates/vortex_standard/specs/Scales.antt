-- How many digits of a decimal are after the point.
use Rattle.std.specs.Prelude.{◌≡◌, ◌∷◌, [], Bool, List, Option, Some, nat_eq, refl, true, false, ℕ}
use Rattle.std.specs.List.{find}
use Rattle.std.proofs.Common.{cond, sym}
use Rattle.std.proofs.lemmas.Bool.{eqb-true}
use Rattle.vortex_standard.specs.declared.scales.DecimalScale.{DecimalScale}
use Rattle.vortex_standard.specs.declared.scales.DecimalScale.TheVariants as scale

abbrev pub scale_number : DecimalScale → ℕ
scale_number scale.S0 = 0
scale_number scale.S1 = 1
scale_number scale.S2 = 2
scale_number scale.S3 = 3
scale_number scale.S4 = 4
scale_number scale.S5 = 5
scale_number scale.S6 = 6
scale_number scale.S7 = 7
scale_number scale.S8 = 8
scale_number scale.S9 = 9
scale_number scale.S10 = 10
scale_number scale.S11 = 11
scale_number scale.S12 = 12
scale_number scale.S13 = 13
scale_number scale.S14 = 14
scale_number scale.S15 = 15
scale_number scale.S16 = 16
scale_number scale.S17 = 17
scale_number scale.S18 = 18

abbrev pub scales : List DecimalScale
scales =
    scale.S0 ∷ scale.S1 ∷ scale.S2 ∷ scale.S3 ∷ scale.S4 ∷ scale.S5 ∷ scale.S6 ∷ scale.S7 ∷
    scale.S8 ∷ scale.S9 ∷ scale.S10 ∷ scale.S11 ∷ scale.S12 ∷ scale.S13 ∷ scale.S14 ∷ scale.S15 ∷
    scale.S16 ∷ scale.S17 ∷ scale.S18 ∷ []

-- the scale with a number
abbrev pub scale_of : ℕ → Option DecimalScale
scale_of n = find (λ s. nat_eq n (scale_number s)) scales

pub scale_back : (s : DecimalScale) → scale_of (scale_number s) ≡ Some s
scale_back scale.S0 = refl
scale_back scale.S1 = refl
scale_back scale.S2 = refl
scale_back scale.S3 = refl
scale_back scale.S4 = refl
scale_back scale.S5 = refl
scale_back scale.S6 = refl
scale_back scale.S7 = refl
scale_back scale.S8 = refl
scale_back scale.S9 = refl
scale_back scale.S10 = refl
scale_back scale.S11 = refl
scale_back scale.S12 = refl
scale_back scale.S13 = refl
scale_back scale.S14 = refl
scale_back scale.S15 = refl
scale_back scale.S16 = refl
scale_back scale.S17 = refl
scale_back scale.S18 = refl

found_passes : (p : DecimalScale → Bool) (ss : List DecimalScale) (s : DecimalScale)
    → find p ss ≡ Some s → p s ≡ true
found_passes p [] s e = cc
found_passes p (t ∷ ts) s e = by (p t) refl (found_passes p ts s) e
  where
    by : (b : Bool) → p t ≡ b → (find p ts ≡ Some s → p s ≡ true)
        → cond b (Some t) (find p ts) ≡ Some s → p s ≡ true
    by true l later m = cc
    by false l later m = later m

pub number_back : (n : ℕ) (s : DecimalScale) → scale_of n ≡ Some s → scale_number s ≡ n
number_back n s e =
    sym (eqb-true n (scale_number s) (found_passes (λ t. nat_eq n (scale_number t)) scales s e))
