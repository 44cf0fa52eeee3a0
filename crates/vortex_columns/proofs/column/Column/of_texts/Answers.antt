use Rattle.std.proofs.Common.{◌∙◌, refl}
use Rattle.vortex_columns.specs.ValidityView.{validity_of}
use Rattle.vortex_columns.proofs.OptionRows.{answers_texts}
use Rattle.vortex_columns.proofs.column.Column.of_texts.Goals as goal

pub returns : goal.returns
returns c =
    answers_texts _ c.args.rows.now c.deref.result.now (validity_of c.in_ok-option_validity.field-0)
    refl (c.deref.ensures.value ∙ c.in_ok-values.ensures) c.in_ok-option_validity.ensures
    c.try_texts.result c.try_texts.ensures
