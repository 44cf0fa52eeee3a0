-- A result for a part is a result for the whole.
use Rattle.std.proofs.Common.{◌≡◌, inr, Result}
use Rattle.std.specs.Bool.{IsTrue}
use Rattle.std.specs.Result.{IsErrAnd}
use Rattle.std.proofs.lemmas.Result.{err_from_is_err_and}
use Rattle.vortex_expressions.specs.declared.error.TextError.{TextError}
use Rattle.vortex_expressions.specs.Outcomes.{Outcome, answers, refuses, missing, and_then}
use Rattle.vortex_expressions.specs.Reading.{ToldBy, Finds, is_want_of_memory}

pub of_memory : {A : Type 0} (o : Outcome A) (e : TextError) → IsTrue (is_want_of_memory e)
    → ToldBy o e
of_memory (answers a) e h = h
of_memory (refuses r) e h = inr h
of_memory missing e h = inr h

pub told_first : {A B : Type 0} (o : Outcome A) (f : A → Outcome B) (e : TextError) → ToldBy o e
    → ToldBy (and_then o f) e
told_first (answers a) f e h = of_memory (f a) e h
told_first (refuses r) f e h = h
told_first missing f e h = h

pub handed_on : {A B : Type 0} (view : A → B) (o : Outcome B) (r : Result A TextError)
    (e : TextError) → IsErrAnd r (λ x. x ≡ e) → ToldBy o e → Finds view r o
handed_on view o r e h k = let p = err_from_is_err_and r h in rw (p.1, p.2) k
