use Rattle.std.proofs.Common.{◌∙◌, ap, map}
use Rattle.vortex_types.specs.TypeOf.{allows_null}
use Rattle.vortex_columns.specs.ValidityView.{validity_of}
use Rattle.vortex_cells.specs.Cells.{cells_validity}
use Rattle.vortex_cells.proofs.CellRows.{column_made}
use Rattle.vortex_cells.proofs.cells.column_of.Goals as goal

pub returns-in-Ok : goal.returns-in-Ok
returns-in-Ok g c = λ said cells.
    let n = allows_null c.args.nullability in
    let vs = map g.K.CellKind.value c.args.cells.items.items in
    let validity = c.in_ok-validity.ensures ∙ ap (cells_validity n) c.deref.ensures.value in
    column_made g.K.CellTypes.kind n vs c.args.cells.valid.items said
    (validity_of c.in_ok-validity.validity) c.in-Ok.column (g.K.CellTypes.nullable n) cells validity
    c.in-Ok.ensures.0.1 c.in-Ok.ensures.1
