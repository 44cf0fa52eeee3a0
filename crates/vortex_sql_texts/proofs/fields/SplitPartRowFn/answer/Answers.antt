use Rattle.std.proofs.Common.{arith, map, subst}
use Rattle.std.proofs.lemmas.List.{length-map}
use Rattle.vortex_columns.specs.Cells.{cell_value}
use Rattle.vortex_sql_rows.specs.AnsweredRows.{AnswersRow}
use Rattle.vortex_sql_texts.proofs.FieldParts.{other_parts}
use Rattle.vortex_sql_texts.proofs.fields.SplitPartRowFn.answer.Goals as goal

pub returns-in-len1 : goal.returns-in-len1
returns-in-len1 c =
    let size = length-map c.args.cells.now cell_value in
    subst (λ o. AnswersRow o c.other_values-in-len1.result)
    (other_parts (map cell_value c.args.cells.now)
    (λ e. absurd (omega (arith, e, size, c.in-len1.len_below)))) c.other_values-in-len1.ensures

pub returns-in-len2 : goal.returns-in-len2
returns-in-len2 c =
    let size = length-map c.args.cells.now cell_value in
    subst (λ o. AnswersRow o c.other_values-in-len2.result)
    (other_parts (map cell_value c.args.cells.now)
    (λ e. absurd (omega (arith, e, size, c.in-len2.len_below)))) c.other_values-in-len2.ensures

pub returns-in-len4-up : goal.returns-in-len4-up
returns-in-len4-up c =
    let size = length-map c.args.cells.now cell_value in
    subst (λ o. AnswersRow o c.other_values-in-len4-up.result)
    (other_parts (map cell_value c.args.cells.now)
    (λ e. absurd (omega (arith, e, size, c.in-len4-up.len_at_least)))) c.other_values-in-len4-up.ensures
