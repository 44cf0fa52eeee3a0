use Rattle.std.proofs.Common.{◌∙◌, ap, sym, subst, List, reverse, Some}
use Rattle.vortex_columns.specs.ColumnView.{ColumnView}
use Rattle.vortex_interface.specs.Execution.{Executes, RefusesExecution}
use Rattle.std.specs.Cow.{cow_value}
use Rattle.rowfn_scripts.specs.Sessions.{RunsTop, column_line}
use Rattle.rowfn_scripts.proofs.SessionSteps.{columns_of, stack_of, last_is_top, top_printed}
use Rattle.rowfn_scripts.proofs.SessionSteps.{top_refused, answers_refusal}
use Rattle.rowfn_scripts.specs.Stepping.{script_meaning}
use Rattle.rowfn_scripts.proofs.session.Session.top_text.Goals as goal

pub returns-in_err-column : goal.returns-in_err-column
returns-in_err-column c =
    let m = script_meaning in
    let s = c.args.self.now in
    let n = c.args.count in
    let tree = c.in-Some.tree.now in
    let top =
    sym (stack_of c.self.view_is) ∙ ap reverse (sym c.deref.ensures.value)
    ∙ last_is_top c.deref.result.now tree c.in-Some.ensures.item.3.0 c.in-Some.ensures.item.1 in
    let columns = c.deref-2.ensures.value ∙ columns_of c.self.view_is in
    answers_refusal (RunsTop m (Some n) s.stack s) (RefusesExecution m c.deref-2.result.now n tree)
    s c.from_residual.result c.in_err-column.field-0.0
    (λ e h.
    top_refused m n s tree _ top e
    (subst (λ (cs : List ColumnView). RefusesExecution m cs n tree e) columns h))
    c.from_residual.ensures.1 c.in_err-column.ensures.answer

pub returns : goal.returns
returns c =
    let m = script_meaning in
    let top =
    sym (stack_of c.self.view_is) ∙ ap reverse (sym c.deref.ensures.value)
    ∙ last_is_top c.deref.result.now c.in-Some.tree.now c.in-Some.ensures.item.3.0
    c.in-Some.ensures.item.1 in
    let columns = c.deref-2.ensures.value ∙ columns_of c.self.view_is in
    top_printed m c.args.count c.args.self.now c.in-Some.tree.now _ top
    (cow_value c.in_ok-column.column) _
    (subst
    (λ (cs : List ColumnView).
    Executes m cs c.args.count c.in-Some.tree.now (cow_value c.in_ok-column.column))
    columns c.in_ok-column.ensures.answer)
    (c.in_ok-column_line.ensures ∙ ap column_line c.deref-3.ensures)

pub returns-in_err-column_line : goal.returns-in_err-column_line
returns-in_err-column_line c =
    let s = c.args.self.now in
    answers_refusal (RunsTop script_meaning (Some c.args.count) s.stack s) (λ e. ⊥) s
    c.from_residual-in_err-column_line.result c.in_err-column_line.field-0.0 (λ e h. absurd h)
    c.from_residual-in_err-column_line.ensures.1 c.in_err-column_line.ensures
