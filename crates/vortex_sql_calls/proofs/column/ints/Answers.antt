use Rattle.vortex_types.specs.TypeOf.{type_of}
use Rattle.vortex_columns.specs.ValidityView.{validity_of}
use Rattle.vortex_sql_calls.proofs.Columns.{int_cells}
use Rattle.vortex_sql_calls.proofs.column.ints.Goals as goal

pub returns : goal.returns
returns g c =
    int_cells g.T.NativePType.ptype g.T.NativePType.number (type_of c.args.dtype.now)
    c.args.cells.now c.in_ok-values.values.items (validity_of c.in_ok-validity.validity)
    c.requires.integers c.requires.typed c.in_ok-validity.ensures c.in_ok-values.ensures
    c.try_primitive.result c.try_primitive.ensures
