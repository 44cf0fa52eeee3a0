-- Rows with estimated results.
use Rattle.std.proofs.Common.{◌≡◌, ◌∙◌, ℕ, ◌+◌, ◌-◌, ◌≤◌, Bool, true, false, Option, Some, List}
use Rattle.std.proofs.Common.{[], ◌∷◌, ◌++◌, length, take, drop, arith}
use Rattle.std.proofs.lemmas.List.{length-take-le, length-drop}
use Rattle.std.proofs.Common.{sym, refl, subst}
use Rattle.std.specs.Prelude.{ℤ, ◌||◌}
use Rattle.vortex_types.specs.declared.dtype.PType.{PType}
use Rattle.vortex_kernels.specs.ArithmeticIntegers.{FitsResult}
use Rattle.vortex_kernels.specs.Faults.{AreToldResults}
use Rattle.vortex_kernels.proofs.Calculating.{results_more, tells_more}

or_false : (b : Bool) → b ≡ (b || false)
or_false true = refl
or_false false = refl

-- one more estimate, unless one is wrong
pub one_more_guess : (p : PType) (exact : ℕ → Option ℤ) (n m : ℕ) (ns : List ℤ) (o : Option ℤ)
    (z : ℤ) (told off here : Bool) → m ≡ n + 1 → o ≡ exact n → (here ≡ false → Some z ≡ o)
    → (here ≡ false → FitsResult p o) → (off || here) ≡ false
    → (off ≡ false → AreToldResults p exact n ns told)
    → AreToldResults p exact m (ns ++ z ∷ []) told
one_more_guess p exact n m ns o z told true here next same is fits none before = cc
one_more_guess p exact n m ns o z told false here next same is fits none before =
    let h = before refl in
    subst (λ (k : ℕ). AreToldResults p exact k (ns ++ z ∷ []) told) (sym next) (
      results_more p exact n ns o z h.0 same (λ f. sym (is none)),
      tells_more p exact n told false told o h.1 same (fits none) (or_false told),
    )

-- 64 of a list's elements
pub length_64 : {A : Type 0} (xs : List A) (n : ℕ) → n + 64 ≤ length xs
    → length (take (n + 64 - n) (drop n xs)) ≡ 64
length_64 xs n fits =
    let count : n + 64 - n ≡ 64 = omega arith in
    length-take-le (n + 64 - n) (drop n xs) (omega (arith, length-drop n xs, fits)) ∙ count
