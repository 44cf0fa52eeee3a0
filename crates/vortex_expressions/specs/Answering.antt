-- Results of calls of this crate, before they have positions.
use Rattle.std.specs.Prelude.{◌≡◌, Result, MatchResult}
use Rattle.vortex_errors.specs.Answers.{UnlessMemory}
use Rattle.vortex_expressions.specs.declared.refusal.Refusal.{Refusal}
use Rattle.vortex_expressions.specs.declared.refusal.Refusal.TheVariants.{Binding}
use Rattle.vortex_expressions.specs.declared.refusal.BindStop.{BindStop}
use Rattle.vortex_expressions.specs.declared.refusal.BindStop.TheVariants.{Refused, Missing}
use Rattle.vortex_expressions.specs.Outcomes.{Outcome, answers, refuses, missing}

-- P; or the error is out of memory
abbrev pub UnlessOutOfMemory : Type 0 → Refusal → Type 0
UnlessOutOfMemory P (Binding e) = UnlessMemory (λ e. P) e
UnlessOutOfMemory P r = P

module _ {B : Type 0} where
  -- why a call stops: as in the outcome, or out of memory
  abbrev pub StopsBy : Outcome B → BindStop → Type 0
  StopsBy o (Refused r) = UnlessOutOfMemory (o ≡ refuses r) r
  StopsBy o Missing = o ≡ missing

  -- the outcome is the call's result, as a view; or the call stops
  abbrev pub Gives : {A : Type 0} → (A → B) → Result A BindStop → Outcome B → Type 0
  Gives view result o = MatchResult result (λ a. o ≡ answers (view a)) (StopsBy o)
