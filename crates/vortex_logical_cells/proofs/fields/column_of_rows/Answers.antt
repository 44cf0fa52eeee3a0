use Rattle.std.proofs.Common.{ap, ◌∙◌}
use Rattle.vortex_types.specs.TypeOf.{allows_null}
use Rattle.vortex_columns.specs.ValidityView.{validity_of}
use Rattle.vortex_cells.specs.Cells.{cells_validity}
use Rattle.vortex_logical_cells.proofs.StoredRows.{stored_column}
use Rattle.vortex_logical_cells.proofs.fields.column_of_rows.Goals as goal

pub returns : goal.returns
returns g c = λ said cells.
    let n = allows_null c.args.nullability in
    let validity = c.in_ok-validity.ensures ∙ ap (cells_validity n) c.deref.ensures.value in
    stored_column g.T.NativePType.ptype g.T.NativePType.number n c.args.rows.items.items
    c.args.rows.valid.items said (validity_of c.in_ok-validity.validity) c.try_primitive.result cells
    validity c.try_primitive.ensures
