-- What becomes of a part of a text that declares columns.
use Rattle.std.specs.Prelude.{◌≡◌, ◌≢◌, Result, MatchResult}
use Rattle.rowfn_queries.specs.declared.scope.ScopeReason.{ScopeReason}
use Rattle.rowfn_queries.specs.declared.scope.ScopeReason.TheVariants as reason

-- what it stands for, or why it stands for nothing
pub data Outcome (A : Type 0) : Type 0 where
  answers : A → Outcome A
  refuses : ScopeReason → Outcome A

abbrev pub and_then : {A B : Type 0} → Outcome A → (A → Outcome B) → Outcome B
and_then (answers a) f = f a
and_then (refuses r) f = refuses r

-- the outcome is what a call answers, by what is seen of it; or memory ran out
abbrev pub Gives : {A B : Type 0} → (A → B) → Result A ScopeReason → Outcome B → Type 0
Gives view result o =
    MatchResult result (λ a. o ≡ answers (view a)) (λ e. e ≢ reason.OutOfMemory → o ≡ refuses e)
