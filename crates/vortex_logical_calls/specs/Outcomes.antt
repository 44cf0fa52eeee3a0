-- The outcome of a call on operands.
use Rattle.std.specs.Prelude.{◌≡◌, Result, MatchResult}
use Rattle.vortex_errors.specs.Answers.{UnlessMemory}
use Rattle.vortex_lowering.specs.declared.refusal.Refusal.{Refusal}
use Rattle.vortex_lowering.specs.declared.refusal.Refusal.TheVariants.{Binding}

-- made: its result
-- refused: the kinds do not go together
-- untyped: a tree is not of the type that stores its operand's values, which no reader makes
pub data Outcome (A : Type 0) : Type 0 where
  made : A → Outcome A
  refused : Refusal → Outcome A
  untyped : Outcome A

module _ {A : Type 0} where
  -- the next outcome, if there is a result
  abbrev pub and_then : {B : Type 0} → Outcome A → (A → Outcome B) → Outcome B
  and_then (made a) f = f a
  and_then (refused r) f = refused r
  and_then untyped f = untyped

module _ {B : Type 0} where
  -- the error of an outcome without a result, or out of memory
  abbrev pub FailsBy : Outcome B → Refusal → Type 0
  FailsBy o (Binding e) = UnlessMemory (λ e. o ≡ untyped) e
  FailsBy o r = o ≡ refused r

  -- the outcome is the call's result, as a view; or its error
  abbrev pub Makes : {A : Type 0} → (A → B) → Result A Refusal → Outcome B → Type 0
  Makes view result o = MatchResult result (λ a. o ≡ made (view a)) (FailsBy o)
