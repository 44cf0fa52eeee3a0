-- The inputs of a call, by their number and each one.
use Rattle.std.proofs.Common.{◌≡◌, List, [], ◌∷◌, length, Some, arith}
use Rattle.std.specs.Prelude.{slice_get}

module _ {A : Type 0} where
  pub one_input : (xs : List A) (a : A) → length xs ≡ 1 → slice_get xs 0 ≡ Some a → xs ≡ a ∷ []
  one_input [] a n p = cc
  one_input (x ∷ []) a n p = cc
  one_input (x ∷ y ∷ xs) a n p = absurd (omega (arith, n))

  pub two_inputs : (xs : List A) (a b : A) → length xs ≡ 2
      → slice_get xs 0 ≡ Some a → slice_get xs 1 ≡ Some b → xs ≡ a ∷ b ∷ []
  two_inputs [] a b n p q = cc
  two_inputs (x ∷ []) a b n p q = cc
  two_inputs (x ∷ y ∷ []) a b n p q = cc
  two_inputs (x ∷ y ∷ z ∷ xs) a b n p q = absurd (omega (arith, n))

  pub three_inputs : (xs : List A) (a b c : A) → length xs ≡ 3 → slice_get xs 0 ≡ Some a
      → slice_get xs 1 ≡ Some b → slice_get xs 2 ≡ Some c → xs ≡ a ∷ b ∷ c ∷ []
  three_inputs [] a b c n p q r = cc
  three_inputs (x ∷ []) a b c n p q r = cc
  three_inputs (x ∷ y ∷ []) a b c n p q r = cc
  three_inputs (x ∷ y ∷ z ∷ []) a b c n p q r = cc
  three_inputs (x ∷ y ∷ z ∷ w ∷ xs) a b c n p q r = absurd (omega (arith, n))
