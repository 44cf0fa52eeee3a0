-- What a handle holds of a text that was read, or why it holds nothing.
use Rattle.std.proofs.Common.{◌≡◌, ◌∙◌, ℕ, List, Option, Vec, Global, sym, ap, subst, map, inl, inr}
use Rattle.std.specs.Prelude.{Result, Ok, Err, IfOk, IfErr, MatchResult, IsUtf8}
use Rattle.vortex_types.specs.declared.dtype.StructFields.{StructFields}
use Rattle.vortex_types.specs.TypeOf.{struct_fields}
use Rattle.vortex_logical.specs.declared.kind.Kind.{Kind}
use Rattle.vortex_expressions.specs.declared.refusal.Refusal.{Refusal}
use Rattle.vortex_expressions.specs.Answers.{Answer, ExpressesAll, IsRefusedAll}
use Rattle.yurkije_columns.specs.declared.fields.BorrowedField.{BorrowedField}
use Rattle.yurkije_columns.specs.Scopes.{answers, scope_borrowed, field_kind}
use Rattle.vortex_program.specs.declared.form.Form.TheVariants as form
use Rattle.vortex_program.specs.declared.program.Program.{Program}
use Rattle.vortex_program.specs.Programs.{trees_of, AreOptimized}
use Rattle.vortex_program.specs.Texts.{AreAnswersOf}
use Rattle.yurkije_core.specs.declared.reading.ProgramError.{ProgramError}
use Rattle.yurkije_core.specs.declared.report.Report.{Report}
use Rattle.yurkije_core.specs.Programs.{IsOutOfMemory, RefusesFor, IsNoText}
use Rattle.yurkije.specs.Views.{HeldView}
use Rattle.yurkije.specs.Reading.{Reads, HoldsRead, IsRefusedText}
use Rattle.yurkije.specs.Reading.{read, no_program, without_memory}

module _ (held : Option HeldView) (result : ℕ) (old report : Report) where
  pub read_holds : (fields : List BorrowedField) (said : List ℕ) (scope : StructFields)
      (ks : Vec Kind Global) (r : Result Program ProgramError)
      → scope_borrowed fields ≡ answers (struct_fields scope) → ks.items ≡ map field_kind fields
      → IfOk r (λ p. p.scope ≡ scope) → IfOk r (λ p. p.kinds ≡ ks)
      → IfOk r (λ p. AreAnswersOf form.Answers (struct_fields scope) ks.items said p.written.items)
      → IfOk r (λ p. AreOptimized p.written.items p.optimized.items)
      → ((list : List Answer) → IsUtf8 said → ExpressesAll (struct_fields scope) ks.items said list
      → MatchResult r (λ p. trees_of p.written.items ≡ map (λ a. a.tree) list) IsOutOfMemory)
      → ((w : Refusal) → IsUtf8 said → IsRefusedAll (struct_fields scope) ks.items said w
      → RefusesFor w r)
      → IfErr r (IsNoText said) → Reads r held result old report
      → HoldsRead fields said held result old report
  read_holds fields said scope ks (Ok p) borrowed means same kinds asked kept only refused utf8
      (inl h) =
      read p (borrowed ∙ ap (λ s. answers (struct_fields s)) (sym same)) (ap (λ (js : Vec Kind Global). js.items) kinds ∙ means)
      (subst (λ (js : Vec Kind Global).
      AreAnswersOf form.Answers (struct_fields p.scope) js.items said p.written.items) (sym kinds)
      (subst (λ s. AreAnswersOf form.Answers (struct_fields s) ks.items said p.written.items)
      (sym same) asked))
      kept h.0 h.1
  read_holds fields said scope ks (Ok p) borrowed means same kinds asked kept only refused utf8
      (inr w) =
      without_memory w
  read_holds fields said scope ks (Err e) borrowed means same kinds asked kept only refused utf8 h =
      no_program (struct_fields scope) e borrowed
      (subst (λ (js : List Kind). IsRefusedText (struct_fields scope) js said e) means
      (record { utf8 = utf8; only = only; refused = refused })) h
