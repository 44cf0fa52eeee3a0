use Rattle.vortex_types.specs.TypeOf.{type_of}
use Rattle.std.proofs.Common.{ap, ◌∙◌}
use Rattle.vortex_columns.specs.Made.{borrowed_texts, text_rows}
use Rattle.vortex_columns.specs.ValidityView.{validity_of}
use Rattle.vortex_sql_calls.proofs.Columns.{text_cells}
use Rattle.vortex_sql_calls.proofs.column.texts.Goals as goal

pub returns-in-Ok : goal.returns-in-Ok
returns-in-Ok c =
    let v = validity_of c.in_ok-validity.validity in
    text_cells (type_of c.args.dtype.now) c.args.cells.now (borrowed_texts c.in_ok-values.values.items) v
    c.requires.text c.requires.typed c.in_ok-validity.ensures c.in_ok-values.ensures c.in-Ok.column
    (c.in-Ok.ensures.1 ∙ ap (λ xs. text_rows (borrowed_texts xs) v) c.deref.ensures.value)
