use Rattle.std.proofs.Common.{◌≡◌, ℕ, List, map, subst, ap, sym, ◌∙◌}
use Rattle.yurkije_columns.specs.declared.fields.BorrowedField.{BorrowedField}
use Rattle.yurkije_columns.specs.Scopes.{scope_borrowed, field_kind}
use Rattle.yurkije_columns.specs.Messages.{scope_words}
use Rattle.yurkije_core.specs.declared.report.ErrorNumbers.{ErrorNumbers}
use Rattle.yurkije_core.specs.Reports.{scope_told, Tells}
use Rattle.yurkije.specs.Reading.{HoldsRead, no_scope, without_memory}
use Rattle.yurkije.proofs.ReadHeld.{read_holds}
use Rattle.yurkije.proofs.ErrorNumbers.{refuses_in}
use Rattle.yurkije.proofs.expressions.yk_expression_new.Goals as goal

pub returns-in-Ok-read_kinds : goal.returns-in-Ok-read_kinds
returns-in-Ok-read_kinds c =
    let held = c.hold.new.expression.held in
    let result = c.hold.result in
    let old = c.args.error.now in
    let report = c.hold.new.error in
    let fields = c.placed.result.now in
    let text = c.placed-in-Ok-read_kinds.result.now in
    let read = c.read_program-read.ensures in
    let means =
    c.in-Ok-read_kinds.ensures ∙ ap (map field_kind) (c.placed-in-Ok.ensures ∙ sym c.placed.ensures) in
    subst (λ (fs : List BorrowedField). HoldsRead fs c.args.text.now held result old report)
    c.placed.ensures
    (subst (λ (t : List ℕ). HoldsRead fields t held result old report)
    c.placed-in-Ok-read_kinds.ensures
    (read_holds held result old report fields text c.in-Ok.scope c.in-Ok-read_kinds.kinds
    c.read_program-read.result c.in-Ok.ensures means read.scope read.kinds read.found read.kept
    read.only read.refused read.text c.hold.ensures))

pub returns-in-Err-read_kinds : goal.returns-in-Err-read_kinds
returns-in-Err-read_kinds c =
    without_memory (record {
      left = c.clear.ensures;
      status = c.tell.ensures.status ∙ ap (λ (t : ErrorNumbers). t.status) c.of.ensures;
      told = subst (Tells c.tell.new.self) c.of.ensures c.tell.ensures.told;
      message = c.tell.ensures.message;
    })

pub returns-in-Err : goal.returns-in-Err
returns-in-Err c =
    let wrong = c.in-Err.wrong in
    no_scope wrong (λ other. ap scope_borrowed (sym c.placed.ensures) ∙ c.in-Err.ensures other)
    (refuses_in (λ w. w ≡ scope_words wrong.field wrong.fault) c.scope_words-words.result
    (scope_told wrong) c.of_scope.result c.clear.new.self.held c.report_text.result c.args.error.now
    c.report_text.new.self c.of_scope.ensures c.clear.ensures c.report_text.ensures.status
    c.report_text.ensures.told c.scope_words-words.ensures c.report_text.ensures.message)
