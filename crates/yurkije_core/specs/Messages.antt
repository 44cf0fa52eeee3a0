-- The words in which refusals are told, in the caller's bytes.
use Rattle.std.specs.Prelude.{◌≡◌, ◌⊎◌, ◌++◌, ℕ, List, [], codes, Option, Some, None}
use Rattle.std.specs.Prelude.{slice_get, string_bytes, map}
use Rattle.std.specs.Fmt.{decimal}
use Rattle.vortex_errors.specs.declared.error.VortexError.{VortexError}
use Rattle.vortex_standard.specs.ErrorTexts.{standard_error_text}
use Rattle.vortex_types.specs.LogicalTypes.{Fields}
use Rattle.vortex_expressions.specs.Messages.{read_error_text}
use Rattle.vortex_program.specs.declared.answer.Answer as bound
use Rattle.vortex_program.specs.declared.running.RunError as fault
use Rattle.vortex_program.specs.declared.running.RunError.TheVariants as fault_of
use Rattle.yurkije_columns.specs.Messages.{IsMessage, memory_words, fault_words, name_of_field}
use Rattle.yurkije_core.specs.declared.reading.ProgramError.{ProgramError}
use Rattle.yurkije_core.specs.declared.reading.ProgramError.TheVariants as program
use Rattle.yurkije_core.specs.declared.running.BatchRunError.{BatchRunError}
use Rattle.yurkije_core.specs.declared.running.BatchRunError.TheVariants as run
use Rattle.yurkije_core.specs.declared.report.Report.{Report}

-- why bytes are no program
abbrev pub IsProgramWords : ProgramError → List ℕ → Type 0
IsProgramWords program.NotUtf8 words = words ≡ codes "the text is not UTF-8"
IsProgramWords (program.Text e) words = words ≡ read_error_text e

-- the names of answers, and the one of an answer, or none where there is no such answer
abbrev pub names_of : List bound.Answer → List (List ℕ)
names_of answers = map (λ a. string_bytes a.name) answers

abbrev pub name_in : Option (List ℕ) → List ℕ
name_in None = []
name_in (Some name) = name

-- an answer that faults in a row, and the text of the fault
abbrev pub faulty_words : ℕ → ℕ → List ℕ → VortexError → List ℕ
faulty_words row k name e =
    codes "row " ++ (decimal row ++ (codes ", answer " ++ (decimal k
    ++ (codes " (" ++ (name ++ (codes "): " ++ standard_error_text e))))))

-- why answers of those names return nothing
abbrev pub IsFaultWords : List (List ℕ) → fault.RunError → List ℕ → Type 0
IsFaultWords names (fault_of.Fault row k e) words =
    words ≡ faulty_words row k (name_in (slice_get names k)) e
IsFaultWords names (fault_of.Refused e) words = words ≡ standard_error_text e
IsFaultWords names fault_of.OutOfMemory words = words ≡ memory_words

-- why they return nothing for a batch of n rows over fields
abbrev pub IsRunWords : Fields → List (List ℕ) → ℕ → BatchRunError → List ℕ → Type 0
IsRunWords scope names n (run.Batch e) words =
    words ≡ fault_words e.column (name_of_field scope e.column) n e.fault
IsRunWords scope names n (run.Program e) words = IsFaultWords names e words

-- those words are the report's message
abbrev pub HasMessage : List ℕ → Report → Report → Type 0
HasMessage words old new =
    IsMessage words old.message.now new.message.now new.message_length

-- the message is in words of P, or tells that memory for them was refused
pub record IsToldIn (P : List ℕ → Type 0) (old new : Report) : Type 0 where
  pub words : List ℕ
  pub said : P words ⊎ (words ≡ memory_words)
  pub message : HasMessage words old new
