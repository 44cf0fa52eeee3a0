-- The mark of a nullable type.
use Rattle.std.proofs.Common.{◌≡◌, ◌≢◌, ◌==◌, ℕ, Bool, true, false, Option, Some, None, List, []}
use Rattle.std.proofs.Common.{◌∷◌, ◌++◌, refl, ap, ◌∙◌, arith, tests, option_map, if◌then◌else◌}
use Rattle.vortex_cells.specs.TypeWords.{without_mark}

pub marked : (w name : List ℕ) → w ≡ name ++ 63 ∷ [] → without_mark w ≡ Some name
marked w name e = ap without_mark e ∙ by name
  where
    by : (name : List ℕ) → without_mark (name ++ 63 ∷ []) ≡ Some name
    by [] = refl
    by (b ∷ []) = refl
    by (b ∷ c ∷ bs) = ap (option_map (λ w. b ∷ w)) (by (c ∷ bs))

pub unmarked : (w : List ℕ) → ((front : List ℕ) → w ≢ front ++ 63 ∷ []) → without_mark w ≡ None
unmarked [] h = refl
unmarked (b ∷ []) h = by (b == 63) refl
  where
    by : (c : Bool) → (b == 63) ≡ c → if◌then◌else◌ {A = Option (List ℕ)} c (Some []) None ≡ None
    by true e = absurd (h [] (ap (λ x. x ∷ []) (grind (arith, tests))))
    by false e = refl
unmarked (b ∷ c ∷ bs) h =
    ap (option_map (λ w. b ∷ w)) (unmarked (c ∷ bs) (λ front e. h (b ∷ front) (ap (λ w. b ∷ w) e)))
