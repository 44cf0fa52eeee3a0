-- A call over arrays.
use Rattle.std.proofs.Common.{◌≡◌, ℕ, Bool, true, false, List, [], ◌∷◌, length, refl, ap}
use Rattle.std.proofs.Common.{Option, Some, None, nat_eq, subst, sym, ◌∙◌}
use Rattle.std.specs.Prelude.{slice_get, if◌then◌else◌, All, Result, Ok, Err}
use Rattle.std.proofs.lemmas.List.{length-map}
use Rattle.std.proofs.lemmas.List.Elements.{All-nil, All-cons}
use borrow.Author.Tests.{eqb-true}
use Rattle.vortex_errors.specs.declared.error.VortexError.{VortexError}
use Rattle.vortex_errors.specs.declared.error.VortexError.TheVariants.{ArityMismatch}
use Rattle.vortex_errors.specs.Answers.{UnlessMemory}
use Rattle.vortex_errors.proofs.Answering.{UnlessMemory-weaker}
use Rattle.vortex_interface.specs.Meaning.{Meaning, fits}
use Rattle.vortex_interface.specs.Functions.{Function, function_arity}
use Rattle.vortex_functions.specs.Arrays.{Array, rows_in, trees_in, other_rows}
use Rattle.vortex_functions.specs.Binding.{RefusesCall}
use Rattle.vortex_functions.specs.Binding as binding
use Rattle.vortex_arrays.specs.Calls.{RefusesOperands, types, RefusesArrayCall, count}
use Rattle.vortex_arrays.specs.Calls.{operands, AnswersCallOfRows, AnswersCall, AnswersOperands}

fits_not : {A : Type 0} (b : Bool) → b ≡ true → b ≡ false → A
fits_not b p q = cc

where_none : (b : Bool) (o : Option ℕ) (l : ℕ) → (if b then o else Some l) ≡ None
    → (b ≡ true) × (o ≡ None)
where_none true o l e = (refl, e)
where_none false o l e = cc

-- arrays of one row count
pub all_even : {V O : Type 0} (n : ℕ) (xs : List (Array V O)) → other_rows n xs ≡ None
    → All (λ a. rows_in a ≡ n) xs
all_even n [] h = All-nil (λ a. rows_in a ≡ n)
all_even n (a ∷ xs) h =
    let first = where_none (nat_eq (rows_in a) n) (other_rows n xs) (rows_in a) h in
    All-cons (λ b. rows_in b ≡ n) a xs (eqb-true (rows_in a) n first.0) (all_even n xs first.1)

module _ {V O : Type 0} (m : Meaning V O) where
  -- over as many arrays of one row count as the function takes, an error for the trees is one for
  -- the arrays
  pub call_refused : (f : Function V O) (xs : List (Array V O)) (n : ℕ)
      → fits (function_arity m f) (length xs) ≡ true → other_rows n xs ≡ None
      → (e : VortexError) → RefusesCall m f (trees_in xs) e → RefusesArrayCall m f xs n e
  call_refused f xs n arity even e (binding.count p q) =
      fits_not _
      (ap (λ k. fits (function_arity m f) k) (length-map xs (λ (x : Array V O). x.0)) ∙ arity) p
  call_refused f xs n arity even e (binding.types ks p q r s) =
      operands arity (types ks even q r s)

  module _ (f : Function V O) where
    -- the first array's row count
    pub first_call : (xs : List (Array V O)) (a : Array V O) (r : Result (Array V O) VortexError)
        → slice_get xs 0 ≡ Some a → AnswersCallOfRows m f xs (rows_in a) r → AnswersCall m f xs r
    first_call [] a r e h = cc
    first_call (x ∷ xs) a r e h =
        let q : a ≡ x = cc in
        subst (λ (y : Array V O). AnswersCallOfRows m f (x ∷ xs) (rows_in y) r) q h

    pub no_first : (xs : List (Array V O)) (e : VortexError) → slice_get xs 0 ≡ None
        → e ≡ ArityMismatch (function_arity m f) 0 → AnswersCall m f xs (Err e)
    no_first [] e h p =
        subst (UnlessMemory (λ d. d ≡ ArityMismatch (function_arity m f) 0)) (sym p) refl
    no_first (a ∷ xs) e h p = cc

    module _ (xs : List (Array V O)) (n : ℕ) (arity : fits (function_arity m f) (length xs) ≡ true)
      where
        refused : (e : VortexError) → RefusesArrayCall m f xs n e → RefusesOperands m f xs n e
        refused e (count p q) = fits_not _ arity p
        refused e (operands p h) = h

        -- on as many arrays as the function takes
        pub on_operands : (r : Result (Array V O) VortexError) → AnswersCallOfRows m f xs n r
            → AnswersOperands m f xs n r
        on_operands (Ok a) h = h
        on_operands (Err e) h =
            UnlessMemory-weaker (RefusesArrayCall m f xs n) (RefusesOperands m f xs n) refused e h
