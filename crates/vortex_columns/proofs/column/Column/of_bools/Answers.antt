use Rattle.std.proofs.Common.{◌∙◌}
use Rattle.vortex_columns.specs.ValidityView.{validity_of}
use Rattle.vortex_columns.proofs.OptionRows.{answers_bools}
use Rattle.vortex_columns.proofs.column.Column.of_bools.Goals as goal

pub returns : goal.returns
returns c =
    answers_bools c.try_bool.result (validity_of c.in_ok-option_validity.field-0) c.args.rows.now
    c.in_ok-bits.bits
    (c.in_ok-bits.ensures ∙ c.deref.ensures.value ∙ c.in_ok-values.ensures)
    c.in_ok-option_validity.ensures c.try_bool.ensures
