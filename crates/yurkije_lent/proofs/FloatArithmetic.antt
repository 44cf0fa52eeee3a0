-- What is in a result that may be none.
use Rattle.std.proofs.Common.{◌≡◌, Option, Some, subst}
use Rattle.std.specs.Prelude.{Result, IfSome}
use Rattle.std.specs.Result.{result_ok}
use Rattle.vortex_errors.specs.declared.error.VortexError.{VortexError}
use Rattle.vortex_errors.specs.Answers.{AnswersUnlessMemory}
use Rattle.yurkije_lent.proofs.FloatSides.{ok_holds}

pub inner_holds : {A : Type 0} (r : Result (Option A) VortexError) (P : A → Type 0)
    (o : Option (Option A)) (made : Option A) (x : A) → o ≡ result_ok r → o ≡ Some made
    → made ≡ Some x → AnswersUnlessMemory r (λ m. IfSome m P) → P x
inner_holds r P o made x is some there h =
    let outer : IfSome (Some made) (λ m. IfSome m P) =
    subst (λ q. IfSome q (λ m. IfSome m P)) some (ok_holds r (λ m. IfSome m P) o is h) in
    let inner : IfSome (Some x) P = subst (λ q. IfSome q P) there outer in
    inner
