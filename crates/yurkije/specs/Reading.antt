-- What a handle holds of a text, and what is told of one that is refused.
use Rattle.std.specs.Prelude.{◌≡◌, ◌≢◌, ◌⊎◌, ℕ, List, [], Option, Some, None, Result, Ok, Err}
use Rattle.std.specs.Prelude.{IsUtf8, map}
use Rattle.vortex_types.specs.LogicalTypes.{Fields, field_count}
use Rattle.vortex_types.specs.TypeOf.{struct_fields}
use Rattle.vortex_expressions.specs.declared.refusal.Refusal.{Refusal}
use Rattle.vortex_expressions.specs.Answers.{Answer, ExpressesAll, IsRefusedAll}
use Rattle.yurkije_columns.specs.declared.fields.BorrowedField.{BorrowedField}
use Rattle.yurkije_columns.specs.declared.fields.FieldError.{FieldError}
use Rattle.vortex_logical.specs.declared.kind.Kind.{Kind}
use Rattle.yurkije_columns.specs.Scopes.{answers, refuses, scope_borrowed, field_kind}
use Rattle.vortex_program.specs.declared.form.Form.TheVariants as form
use Rattle.vortex_program.specs.declared.program.Program.{Program}
use Rattle.vortex_program.specs.Programs.{trees_of, AreOptimized}
use Rattle.vortex_program.specs.Reads.{AreRead}
use Rattle.vortex_program.specs.Texts.{AreAnswersOf}
use Rattle.yurkije_core.specs.declared.expression.Expression.{Expression}
use Rattle.yurkije_core.specs.declared.reading.ProgramError.{ProgramError}
use Rattle.yurkije_core.specs.declared.report.Report.{Report}
use Rattle.yurkije_core.specs.Programs.{IsNoText, IsOutOfMemory, IsFor}
use Rattle.yurkije_core.specs.declared.report.ErrorNumbers.{ErrorNumbers}
use Rattle.yurkije_core.specs.Messages.{HasMessage, IsToldIn, IsProgramWords}
use Rattle.yurkije_columns.specs.Messages.{memory_words, scope_words}
use Rattle.yurkije_columns.specs.declared.fields.ScopeFault.TheVariants.{OutOfMemory}
use Rattle.yurkije_core.specs.Reports.{Tells, nowhere, program_told, scope_told}
use Rattle.yurkije.specs.Views.{HeldView, program_view, program_held}

-- the handle holds that program, and for each field whether an answer reads it, as it was written
pub record Holds (held : Option HeldView) (p : Program) : Type 0 where
  pub expression : Expression
  pub program : expression.program ≡ p
  pub read : AreRead (trees_of p.written.items) (field_count (struct_fields p.scope))
      expression.reads.items
  pub there : held ≡ Some (program_held (program_view expression))

-- nothing is refused, in no words
pub record Done (result : ℕ) (old report : Report) : Type 0 where
  pub status : result ≡ 0
  pub told : Tells report (nowhere 0)
  pub message : HasMessage [] old report

-- the handle holds nothing, and memory ran out
pub record Wants (held : Option HeldView) (result : ℕ) (old report : Report) : Type 0 where
  pub left : held ≡ None
  pub status : result ≡ 9
  pub told : Tells report (nowhere 9)
  pub message : HasMessage memory_words old report

-- the handle holds nothing, and that is told in words of P
pub record Refuses (P : List ℕ → Type 0) (t : ErrorNumbers) (held : Option HeldView) (result : ℕ)
    (old report : Report) : Type 0 where
  pub left : held ≡ None
  pub status : result ≡ t.status
  pub told : Tells report t
  pub message : IsToldIn P old report

-- what becomes of a program that was read: it is held, or why there is none is told; or memory ran
-- out
abbrev pub Reads : Result Program ProgramError → Option HeldView → ℕ → Report → Report → Type 0
Reads (Ok p) held result old report =
    (Holds held p × Done result old report) ⊎ Wants held result old report
Reads (Err e) held result old report =
    Refuses (IsProgramWords e) (program_told e) held result old report

-- why a text is no program over the fields of a scope
pub record IsRefusedText (scope : Fields) (kinds : List Kind) (text : List ℕ) (e : ProgramError)
    : Type 0 where
  pub utf8 : IsNoText text e
  pub only : (list : List Answer) → IsUtf8 text → ExpressesAll scope kinds text list → IsOutOfMemory e
  pub refused : (r : Refusal) → IsUtf8 text → IsRefusedAll scope kinds text r → IsFor r e

-- the handle holds what the text means over the fields, and 0 is returned; or it holds nothing, and
-- why is told: a field is wrong, or the text, or memory ran out
pub data HoldsRead (fields : List BorrowedField) (text : List ℕ) (held : Option HeldView) (result : ℕ)
    (old report : Report) : Type 0 where
  read : (p : Program) → scope_borrowed fields ≡ answers (struct_fields p.scope)
      → p.kinds.items ≡ map field_kind fields
      → AreAnswersOf form.Answers (struct_fields p.scope) p.kinds.items text p.written.items
      → AreOptimized p.written.items p.optimized.items → Holds held p → Done result old report
      → HoldsRead fields text held result old report
  no_scope : (e : FieldError) → (e.fault ≢ OutOfMemory → scope_borrowed fields ≡ refuses e)
      → Refuses (λ w. w ≡ scope_words e.field e.fault) (scope_told e) held result old report
      → HoldsRead fields text held result old report
  no_program : (scope : Fields) (e : ProgramError) → scope_borrowed fields ≡ answers scope
      → IsRefusedText scope (map field_kind fields) text e
      → Refuses (IsProgramWords e) (program_told e) held result old report
      → HoldsRead fields text held result old report
  without_memory : Wants held result old report → HoldsRead fields text held result old report
