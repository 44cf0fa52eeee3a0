use Rattle.std.proofs.Common.{◌∙◌, ap, sym, subst, List, reverse, Some}
use Rattle.vortex_columns.specs.ColumnView.{ColumnView}
use Rattle.vortex_interface.specs.Running.{ExecutesAfter, RefusesAfter}
use Rattle.std.specs.Cow.{cow_value}
use Rattle.vortex_rewriting.specs.Runs.{expression_step}
use Rattle.rowfn_scripts.specs.Sessions.{RunsAfterTop, column_line}
use Rattle.rowfn_scripts.proofs.SessionSteps.{columns_of, stack_of, last_is_top, answers_refusal}
use Rattle.rowfn_scripts.proofs.SessionSteps.{top_printed_after, top_refused_after}
use Rattle.rowfn_scripts.specs.Stepping.{script_meaning, script_rules}
use Rattle.rowfn_scripts.proofs.session.Session.text_after.Goals as goal

pub returns-in_err-column : goal.returns-in_err-column
returns-in_err-column c =
    let m = script_meaning in
    let rs = script_rules in
    let s = c.args.self.now in
    let n = c.args.count in
    let limit = c.args.limit in
    let tree = c.in-Some.old.now in
    let rule = expression_step m rs in
    let top =
    sym (stack_of c.self.view_is) ∙ ap reverse (sym c.deref.ensures.value)
    ∙ last_is_top c.deref.result.now tree c.in-Some.ensures.item.3.0 c.in-Some.ensures.item.1 in
    let columns = c.deref-2.ensures.value ∙ columns_of c.self.view_is in
    answers_refusal (RunsAfterTop m rs limit (Some n) s.stack s)
    (RefusesAfter m c.deref-2.result.now n rule limit tree) s c.from_residual.result
    c.in_err-column.field-0.0
    (λ e h.
    top_refused_after m n s tree _ top rs limit e
    (subst (λ (cs : List ColumnView). RefusesAfter m cs n rule limit tree e) columns h))
    c.from_residual.ensures.1 c.in_err-column.ensures

pub returns : goal.returns
returns c =
    let m = script_meaning in
    let rs = script_rules in
    let n = c.args.count in
    let limit = c.args.limit in
    let tree = c.in-Some.old.now in
    let column = cow_value c.in_ok-column.column in
    let top =
    sym (stack_of c.self.view_is) ∙ ap reverse (sym c.deref.ensures.value)
    ∙ last_is_top c.deref.result.now tree c.in-Some.ensures.item.3.0 c.in-Some.ensures.item.1 in
    let columns = c.deref-2.ensures.value ∙ columns_of c.self.view_is in
    top_printed_after m n c.args.self.now tree _ top rs limit column _
    (subst
    (λ (cs : List ColumnView). ExecutesAfter m cs n (expression_step m rs) limit tree column)
    columns c.in_ok-column.ensures.executes)
    (c.in_ok-column_line.ensures ∙ ap column_line c.deref-3.ensures)

pub returns-in_err-column_line : goal.returns-in_err-column_line
returns-in_err-column_line c =
    let s = c.args.self.now in
    answers_refusal
    (RunsAfterTop script_meaning script_rules c.args.limit
    (Some c.args.count) s.stack s) (λ e. ⊥) s c.from_residual-in_err-column_line.result
    c.in_err-column_line.field-0.0 (λ e h. absurd h)
    c.from_residual-in_err-column_line.ensures.1 c.in_err-column_line.ensures
