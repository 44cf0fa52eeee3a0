-- Results of the readers of texts.
use Rattle.std.specs.Prelude.{◌≡◌, ◌⊎◌, ℕ, Result, MatchResult, Bool, true, false, IsTrue, List}
use Rattle.std.specs.Prelude.{map}
use Rattle.vortex_errors.specs.declared.error.VortexError.{VortexError}
use Rattle.vortex_errors.specs.declared.error.VortexError.TheVariants.{OutOfMemory}
use Rattle.vortex_types.specs.LogicalTypes.{Fields}
use Rattle.vortex_syntax.specs.declared.step.Step.{Step}
use Rattle.vortex_syntax.specs.declared.expected.Expected.{Expected}
use Rattle.vortex_syntax.specs.Tokens.{Token}
use Rattle.vortex_syntax.specs.Postfix.{step_in}
use Rattle.vortex_syntax.specs.Refusals.{RefusesBy}
use Rattle.vortex_syntax.specs.declared.error.SyntaxError.{SyntaxError}
use Rattle.vortex_syntax.specs.declared.error.SyntaxError.TheVariants as syntax
use Rattle.vortex_expressions.specs.declared.error.TextError.{TextError}
use Rattle.vortex_expressions.specs.declared.error.Reason.{Reason}
use Rattle.vortex_expressions.specs.declared.error.Reason.TheVariants as reason
use Rattle.vortex_expressions.specs.declared.refusal.Refusal.{Refusal}
use Rattle.vortex_expressions.specs.declared.refusal.Refusal.TheVariants.{Binding}
use Rattle.vortex_expressions.specs.declared.refusal.BindStop.{BindStop}
use Rattle.vortex_expressions.specs.declared.refusal.BindStop.TheVariants.{Refused, Missing}
use Rattle.vortex_expressions.specs.Outcomes.{Outcome, answers, refuses, missing}
use Rattle.vortex_expressions.specs.Items.{Tree}
use Rattle.vortex_expressions.specs.Stacks.{tree_left, logical_left}
use Rattle.vortex_expressions.specs.Binding.{logical_in}
use Rattle.vortex_expressions.specs.declared.item.LogicalTree as held
use Rattle.vortex_logical.specs.declared.kind.Kind.{Kind}

abbrev pub is_memory : VortexError → Bool
is_memory OutOfMemory = true
is_memory e = false

abbrev pub is_memory_refusal : Refusal → Bool
is_memory_refusal (Binding e) = is_memory e
is_memory_refusal r = false

abbrev pub is_memory_reason : Reason → Bool
is_memory_reason (reason.Refused r) = is_memory_refusal r
is_memory_reason r = false

-- whether memory ran out
abbrev pub is_want_of_memory : TextError → Bool
is_want_of_memory e = is_memory_reason e.reason

-- P of the result; or memory ran out
abbrev pub ReadUnlessMemory : {A : Type 0} → Result A TextError → (A → Type 0) → Type 0
ReadUnlessMemory result P = MatchResult result P (λ e. IsTrue (is_want_of_memory e))

-- fails for that reason; or memory ran out
abbrev pub RefusedFor : Refusal → TextError → Type 0
RefusedFor r e = (e.reason ≡ reason.Refused r) ⊎ IsTrue (is_want_of_memory e)

abbrev pub RefusesAs : {A : Type 0} → Refusal → Result A TextError → Type 0
RefusesAs r result = MatchResult result (λ _. ⊥) (RefusedFor r)

-- what was expected where a part is missing; or memory ran out
abbrev pub LacksPart : TextError → Type 0
LacksPart e = ((x : Expected) × (e.reason ≡ reason.Unexpected x)) ⊎ IsTrue (is_want_of_memory e)

-- the report of an outcome without a result, or out of memory
abbrev pub ToldBy : {A : Type 0} → Outcome A → TextError → Type 0
ToldBy (answers a) e = IsTrue (is_want_of_memory e)
ToldBy (refuses r) e = RefusedFor r e
ToldBy missing e = LacksPart e

-- the outcome is found, as a view; or its error is reported
abbrev pub Finds : {A B : Type 0} → (A → B) → Result A TextError → Outcome B → Type 0
Finds view result o = MatchResult result (λ a. o ≡ answers (view a)) (ToldBy o)

abbrev pub Bound : Fields → List Step → Result Tree TextError → Type 0
Bound scope ss result = Finds (λ t. t) result (tree_left scope (map step_in ss))

abbrev pub BoundLogical : Fields → List Kind → List Step → Result held.LogicalTree TextError
    → Type 0
BoundLogical scope kinds ss result =
    Finds logical_in result (logical_left scope kinds (map step_in ss))

-- the reason is reported, at that byte, unless memory ran out
abbrev pub ToldAt : Reason → ℕ → TextError → Type 0
ToldAt r byte e = ((e.reason ≡ r) × (e.byte ≡ byte)) ⊎ IsTrue (is_want_of_memory e)

abbrev pub UnreadBy : SyntaxError → TextError → Type 0
UnreadBy (syntax.NoToken byte) e = ToldAt reason.NoToken byte e
UnreadBy (syntax.Unexpected byte x) e = ToldAt (reason.Unexpected x) byte e
UnreadBy (syntax.TooDeep byte) e = ToldAt reason.TooDeep byte e
UnreadBy syntax.OutOfMemory e = IsTrue (is_want_of_memory e)

-- the report of why steps stop
abbrev pub ToldStop : BindStop → TextError → Type 0
ToldStop (Refused r) e = RefusedFor r e
ToldStop Missing e = LacksPart e

-- Why a text fails, and at which byte: its tokens, by where they stop, or an error of this kind; or
-- memory ran out.
abbrev pub ToldFor : (List Token → ℕ → Type 0) → (Refusal → Type 0) → List ℕ → Reason → ℕ → Type 0
ToldFor Stops Refuses text reason.NoToken byte = RefusesBy Stops text (syntax.NoToken byte)
ToldFor Stops Refuses text (reason.Unexpected x) byte =
    RefusesBy Stops text (syntax.Unexpected byte x)
ToldFor Stops Refuses text reason.TooDeep byte = RefusesBy Stops text (syntax.TooDeep byte)
ToldFor Stops Refuses text (reason.Refused r) byte = Refuses r ⊎ IsTrue (is_memory_refusal r)

abbrev pub TellsWhy : (List Token → ℕ → Type 0) → (Refusal → Type 0) → List ℕ → TextError → Type 0
TellsWhy Stops Refuses text e = ToldFor Stops Refuses text e.reason e.byte
