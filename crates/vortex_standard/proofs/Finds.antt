-- The first element that passes a test, of what is left of a list.
use Rattle.std.proofs.Common.{◌≡◌, ◌≤◌, ◌<◌, ◌+◌, ℕ, zero, suc, List, [], ◌∷◌, Some, None, Bool}
use Rattle.std.proofs.Common.{true, false, arith, drop, get_or, length, refl, add-one}
use Rattle.std.specs.List.{find}

module _ {X : Type 0} (p : X → Bool) where
  pub find_here : (xs : List X) (i : ℕ) (d : X) → i < length xs → p (get_or xs i d) ≡ true
      → find p (drop i xs) ≡ Some (get_or xs i d)
  find_here [] i d h k = absurd (omega (arith, h))
  find_here (x ∷ xs) zero d h k = rw k refl
  find_here (x ∷ xs) (suc i) d h k = find_here xs i d (omega (arith, h)) k

  past : (xs : List X) (i : ℕ) (d : X) → i < length xs → p (get_or xs i d) ≡ false
      → find p (drop i xs) ≡ find p (drop (suc i) xs)
  past [] i d h k = absurd (omega (arith, h))
  past (x ∷ xs) zero d h k = rw k refl
  past (x ∷ xs) (suc i) d h k = past xs i d (omega (arith, h)) k

  pub find_past : (xs : List X) (i : ℕ) (d : X) → i < length xs → p (get_or xs i d) ≡ false
      → find p (drop i xs) ≡ find p (drop (i + 1) xs)
  find_past xs i d h k = rw (add-one) (past xs i d h k)

  pub find_end : (xs : List X) (i : ℕ) → length xs ≤ i → find p (drop i xs) ≡ None
  find_end [] zero h = refl
  find_end [] (suc i) h = refl
  find_end (x ∷ xs) zero h = absurd (omega (arith, h))
  find_end (x ∷ xs) (suc i) h = find_end xs i (omega (arith, h))
