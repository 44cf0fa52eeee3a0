-- What a call returns, unless memory is refused.
use Rattle.std.proofs.Common.{◌≡◌, Option, Some, None, sym, subst}
use Rattle.std.specs.Prelude.{Result, Ok, Err, IfSome}
use Rattle.std.specs.Result.{result_ok}
use Rattle.vortex_errors.specs.declared.error.VortexError.{VortexError}
use Rattle.vortex_errors.specs.Answers.{Answers, AnswersUnlessMemory}
use Rattle.vortex_kernels.proofs.Calculating.{some_is}

module _ {A : Type 0} where
  pub some_weaker : (o : Option A) (P Q : A → Type 0) → ((x : A) → P x → Q x) → IfSome o P
      → IfSome o Q
  some_weaker None P Q f h = tt
  some_weaker (Some x) P Q f h = f x h

  pub some_answers : (r : Result A VortexError) (P : A → Type 0) (Q : VortexError → Type 0)
      (o : Option A) → o ≡ result_ok r → Answers r P Q → IfSome o P
  some_answers (Ok x) P Q o e h = subst (λ (u : Option A). IfSome u P) (sym e) h
  some_answers (Err f) P Q o e h = subst (λ (u : Option A). IfSome u P) (sym e) tt

  -- this value
  pub answered : (r : Result A VortexError) (P : A → Type 0) (o : Option A) (x : A)
      → o ≡ result_ok r → o ≡ Some x → AnswersUnlessMemory r P → P x
  answered r P o x e is h = some_is P o x is (some_answers r P (λ f. ⊥) o e h)
