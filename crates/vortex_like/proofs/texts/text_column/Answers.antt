use Rattle.std.proofs.Common.{sym, ap, ◌∙◌, subst}
use Rattle.vortex_types.specs.Values.{Value, is_null}
use Rattle.vortex_columns.specs.Cells.{cell_value}
use Rattle.vortex_like.proofs.RowLemmas.{constant_row, null_cell, row_is_text, IsNullOrText}
use Rattle.vortex_like.proofs.texts.text_column.Goals as goal

pub returns-in-Text : goal.returns-in-Text
returns-in-Text c = λ i lt.
    constant_row c.in-Some.scalar.now c.args.column.now c.in-Some.ensures i lt
    ∙ sym c.cell.ensures.value
    ∙ ap cell_value c.in-Text.is

pub returns-in_default-cell : goal.returns-in_default-cell
returns-in_default-cell c = λ i lt.
    let column = c.args.column.now in
    let same = constant_row c.in-Some.scalar.now column c.in-Some.ensures i lt in
    ap is_null same
    ∙ null_cell c.cell.result c.in-Some.scalar.now.value c.cell.ensures.value
    (subst (λ (v : Value). IsNullOrText v) same
    (row_is_text column c.requires c.dtype.ensures.typed i lt)) c.in_default-cell.not-Text
