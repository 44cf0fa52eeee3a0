use Rattle.vortex_columns.specs.ValidityView.{validity_of}
use Rattle.vortex_columns.proofs.OptionRows.{answers_ints}
use Rattle.vortex_columns.proofs.column.Column.of_ints.Goals as goal

pub returns : goal.returns
returns g c =
    answers_ints c.try_primitive.result (validity_of c.in_ok-option_validity.field-0)
    g.T.NativePType.ptype g.T.NativePType.number c.zero.result c.args.rows.now
    c.in_ok-values.values.items c.in_ok-values.ensures
    c.in_ok-option_validity.ensures c.try_primitive.ensures
