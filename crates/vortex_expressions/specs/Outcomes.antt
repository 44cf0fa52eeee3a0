-- The outcome of a part of an expression.
use Rattle.std.specs.Prelude.{Option, Some, None}
use Rattle.vortex_expressions.specs.declared.refusal.Refusal.{Refusal}

-- answers: its meaning
-- missing: a part that it needs is absent, which no expression has
pub data Outcome (A : Type 0) : Type 0 where
  answers : A → Outcome A
  refuses : Refusal → Outcome A
  missing : Outcome A

module _ {A : Type 0} where
  -- the next outcome, if there is a result
  abbrev pub and_then : {B : Type 0} → Outcome A → (A → Outcome B) → Outcome B
  and_then (answers a) f = f a
  and_then (refuses r) f = refuses r
  and_then missing f = missing

  -- the value, or the error if absent
  abbrev pub or_refuses : Refusal → Option A → Outcome A
  or_refuses r None = refuses r
  or_refuses r (Some a) = answers a
