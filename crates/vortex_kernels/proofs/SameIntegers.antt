-- Laws of an integer type that columns hold and checked arithmetic reads.
use Rattle.std.proofs.Common.{◌≡◌, ℤ, List, [], ◌∷◌, map, Option, Some, None, refl, sym, ap}
use Rattle.std.proofs.Common.{subst, ◌∙◌}
use Rattle.std.specs.Prelude.{◌≤ℤ◌}
use Rattle.vortex_types.specs.declared.dtype.PType.{PType}
use Rattle.vortex_types.specs.Typing.{FitsPType, least_of, greatest_of}
use Rattle.vortex_checked.specs.Exact.{IsWithin, HasResult}
use Rattle.vortex_kernels.specs.ArithmeticIntegers.{FitsResult, AnswersExact}

-- lists have the same numbers
pub same_numbers : {A : Type 0} (f g : A → ℤ) → ((x : A) → f x ≡ g x) → (xs : List A)
    → map f xs ≡ map g xs
same_numbers f g same [] = refl
same_numbers f g same (x ∷ xs) = λ i. same x i ∷ same_numbers f g same xs i

-- the ranges are the same
module _ (p : PType) (least greatest : ℤ) (low : least ≡ least_of p)
    (high : greatest ≡ greatest_of p) where
  pub same_range : (z : ℤ) → IsWithin least greatest z ≡ FitsPType p z
  same_range z = λ i. IsWithin (low i) (high i) z

  pub same_result : (o : Option ℤ) → HasResult least greatest o ≡ FitsResult p o
  same_result None = refl
  same_result (Some z) = same_range z

  pub fits_held : (o : Option ℤ) → FitsResult p o → HasResult least greatest o
  fits_held None h = absurd h
  fits_held (Some z) h =
      (subst (λ (n : ℤ). n ≤ℤ z) (sym low) h.0, subst (λ (n : ℤ). z ≤ℤ n) (sym high) h.1)

  -- the result where the type holds it
  pub answers_exact : (o : Option ℤ) (v z : ℤ) → (HasResult least greatest o → o ≡ Some v) → z ≡ v
      → AnswersExact p o z
  answers_exact o v z answers is h = answers (fits_held o h) ∙ ap Some (sym is)
