use Rattle.vortex_types.specs.TypeOf.{type_of}
use Rattle.vortex_columns.specs.ValidityView.{validity_of}
use Rattle.vortex_sql_calls.proofs.Columns.{bool_cells}
use Rattle.vortex_sql_calls.proofs.column.bools.Goals as goal

pub returns : goal.returns
returns c =
    bool_cells (type_of c.args.dtype.now) c.args.cells.now c.in_ok-bits.bits
    (validity_of c.in_ok-validity.validity) c.try_bool.result c.requires.bool c.requires.typed
    c.in_ok-validity.ensures c.in_ok-bits.ensures c.try_bool.ensures
