-- Why calls stop, from the calls that they consist of.
use Rattle.std.proofs.Common.{◌≡◌, ap, sym, subst, Result}
use Rattle.std.specs.Result.{IsErrAnd}
use Rattle.std.proofs.lemmas.Result.{err_from_is_err_and}
use Rattle.vortex_errors.proofs.Answering.{UnlessMemory-weaker}
use Rattle.vortex_expressions.specs.declared.refusal.Refusal.{Refusal}
use Rattle.vortex_expressions.specs.declared.refusal.Refusal.TheVariants as refusal
use Rattle.vortex_expressions.specs.declared.refusal.BindStop.{BindStop}
use Rattle.vortex_expressions.specs.declared.refusal.BindStop.TheVariants.{Refused, Missing}
use Rattle.vortex_expressions.specs.Outcomes.{Outcome, and_then}
use Rattle.vortex_expressions.specs.Answering.{UnlessOutOfMemory, StopsBy, Gives}

unless-weaker : {P Q : Type 0} (r : Refusal) → (P → Q) → UnlessOutOfMemory P r
    → UnlessOutOfMemory Q r
unless-weaker (refusal.Binding e) f h = UnlessMemory-weaker _ _ (λ d. f) e h
unless-weaker refusal.NotUtf8 f h = f h
unless-weaker refusal.UnknownType f h = f h
unless-weaker refusal.NotHeld f h = f h
unless-weaker refusal.UntypedNull f h = f h
unless-weaker refusal.NoEscape f h = f h
unless-weaker refusal.NoCast f h = f h
unless-weaker refusal.NoFunction f h = f h
unless-weaker (refusal.OfKind k) f h = f h
unless-weaker (refusal.Kinds r) f h = f h

-- where the first call stops, both do
pub stops_first : {A B : Type 0} (o : Outcome A) (f : A → Outcome B) (s : BindStop)
    → StopsBy o s
    → StopsBy (and_then o f) s
stops_first o f (Refused r) h = unless-weaker r (λ e. ap (λ o. and_then o f) e) h
stops_first o f Missing h = ap (λ o. and_then o f) h

-- a call that passes on why another stopped
pub handed_on : {A B : Type 0} (view : A → B) (o : Outcome B) (r : Result A BindStop)
    (s : BindStop)
    → IsErrAnd r (λ e. e ≡ s) → StopsBy o s → Gives view r o
handed_on view o r s h k = let p = err_from_is_err_and r h in rw (p.1, p.2) k

-- a call that gives what another outcome is
pub given_as : {A B : Type 0} (view : A → B) (o p : Outcome B) (r : Result A BindStop) → p ≡ o
    → Gives view r o → Gives view r p
given_as {B = B} view o p r e h = subst (λ (x : Outcome B). Gives view r x) (sym e) h
