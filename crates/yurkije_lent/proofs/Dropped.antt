-- Results of calls whose error is dropped.
use Rattle.std.proofs.Common.{◌≡◌, sym, subst, refl, Result, Ok, Err, Option, Some, None}
use Rattle.std.specs.Prelude.{IfSome, MatchResult, is_some, not, Bool, true, false}
use Rattle.std.specs.Result.{result_ok}
use Rattle.vortex_errors.specs.declared.error.VortexError.{VortexError}
use Rattle.vortex_errors.specs.Answers.{AnswersUnlessMemory}

module _ {A : Type 0} (P Q : A → Type 0) (weaker : (x : A) → P x → Q x) where
  pub some_of : (r : Result A VortexError) (o : Option A) → o ≡ result_ok r → AnswersUnlessMemory r P
      → IfSome o Q
  some_of (Ok x) o is h = subst (λ (p : Option A). IfSome p Q) (sym is) (weaker x h)
  some_of (Err e) o is h = subst (λ (p : Option A). IfSome p Q) (sym is) tt

  pub matched_of : {E : Type 0} (R : E → Type 0) (r : Result A E) (o : Option A) → o ≡ result_ok r
      → MatchResult r P R → IfSome o Q
  matched_of R (Ok x) o is h = subst (λ (p : Option A). IfSome p Q) (sym is) (weaker x h)
  matched_of R (Err e) o is h = subst (λ (p : Option A). IfSome p Q) (sym is) tt

pub none_of : {A : Type 0} (o : Option A) → ((x : A) → o ≡ Some x → ⊥) → o ≡ None
none_of None h = refl
none_of (Some x) h = absurd (h x refl)

pub is_none_none : {A : Type 0} (o : Option A) (b : Bool) → is_some o ≡ not b → b ≡ true → o ≡ None
is_none_none None b is e = refl
is_none_none (Some x) true is e = cc
is_none_none (Some x) false is e = cc
