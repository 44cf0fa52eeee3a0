use Rattle.std.proofs.Common.{ap, sym, ◌∙◌, map, subst}
use Rattle.vortex_columns.specs.Cells.{cell_value}
use Rattle.vortex_sql_rows.specs.AnsweredRows.{AnswersRow}
use Rattle.vortex_sql_patterns.specs.Lookups.{answer_for}
use Rattle.vortex_sql_patterns.proofs.Rows.{of_asked, of_null, same_bytes}
use Rattle.vortex_sql_patterns.proofs.matched.answer_by.Goals as goal

pub returns-in_default-clause-value : goal.returns-in_default-clause-value
returns-in_default-clause-value c =
    of_null c.args.lookup (map cell_value c.args.cells.now) (sym c.in_default.ensures)

pub returns-then-eq-clause-value : goal.returns-then-eq-clause-value
returns-then-eq-clause-value c =
    let w = c.args.lookup in
    let bs = c.in-Some.text.now in
    let n = c.in-Some.number.number in
    let other = c.in-Some.other.now in
    let same = same_bytes c.args.pattern.now other c.eq.result c.eq.ensures c.if-eq.true in
    let row = of_asked w (map cell_value c.args.cells.now) bs other n (sym c.in-Some.ensures)
    ∙ ap (λ ps. answer_for w bs ps n) (sym same) in
    subst (λ o. AnswersRow o c.answer.result) (sym row)
    (c.answer.ensures.value c.args.pattern.now c.requires.compiled c.requires.first)
