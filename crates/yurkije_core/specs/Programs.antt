-- Why bytes are no program.
use Rattle.std.specs.Prelude.{ℕ, List, Result, MatchResult, IsTrue, IsUtf8}
use Rattle.vortex_expressions.specs.declared.refusal.Refusal.{Refusal}
use Rattle.vortex_expressions.specs.Reading.{is_want_of_memory, RefusedFor}
use Rattle.yurkije_core.specs.declared.reading.ProgramError.{ProgramError}
use Rattle.yurkije_core.specs.declared.reading.ProgramError.TheVariants as program

-- memory ran out
abbrev pub IsOutOfMemory : ProgramError → Type 0
IsOutOfMemory (program.Text e) = IsTrue (is_want_of_memory e)
IsOutOfMemory program.NotUtf8 = ⊥

-- the reason for which the text is refused, or that memory ran out
abbrev pub IsFor : Refusal → ProgramError → Type 0
IsFor r (program.Text e) = RefusedFor r e
IsFor r program.NotUtf8 = ⊥

abbrev pub RefusesFor : {A : Type 0} → Refusal → Result A ProgramError → Type 0
RefusesFor r result = MatchResult result (λ _. ⊥) (IsFor r)

-- bytes that are no text are refused as such, and nothing else is
abbrev pub IsNoText : List ℕ → ProgramError → Type 0
IsNoText text program.NotUtf8 = ¬ IsUtf8 text
IsNoText text e = IsUtf8 text
