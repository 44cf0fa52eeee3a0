use Rattle.std.proofs.Common.{◌≡◌, ◌<◌, ℕ, length, not, subst, sym, ap, ◌∙◌}
use Rattle.vortex_columns.specs.declared.validity.Validity.{Validity}
use Rattle.vortex_types.specs.Values.{is_null}
use Rattle.vortex_columns.specs.ColumnView.{ColumnView, row}
use Rattle.vortex_columns.specs.Stored.{stored_of, stored_validity}
use Rattle.vortex_columns.specs.ValidityView.{ValidityView, validity_of, FitsRows, is_valid_row}
use Rattle.vortex_errors.proofs.Answering.{AnswersUnlessMemory-weaker}
use Rattle.vortex_columns.proofs.StoredRows.{opened_fits, opened_validity}
use Rattle.vortex_columns.proofs.column.Column.validity.Goals as goal

pub returns-clause-form : goal.returns-clause-form
returns-clause-form c =
    AnswersUnlessMemory-weaker c.validity.result
    (λ (v : Validity). validity_of v ≡ stored_validity (stored_of c.self.inside.storage))
    (λ (v : Validity). (validity_of v).form ≡ c.args.self.now.form)
    (λ v e. ap (λ (w : ValidityView). w.form) e ∙ ap (λ (d : ColumnView). d.form) c.self.view_is)
    c.validity.ensures

pub returns-clause-fits : goal.returns-clause-fits
returns-clause-fits c =
    AnswersUnlessMemory-weaker c.validity.result
    (λ (v : Validity). validity_of v ≡ stored_validity (stored_of c.self.inside.storage))
    (λ (v : Validity). FitsRows (validity_of v) (length c.args.self.now.rows))
    (λ v e.
    subst (λ (w : ValidityView). FitsRows w (length c.args.self.now.rows)) (sym e)
    (opened_fits c.self.inside _ c.self.view_is c.self.invariant))
    c.validity.ensures

pub returns-clause-rows : goal.returns-clause-rows
returns-clause-rows c =
    AnswersUnlessMemory-weaker c.validity.result
    (λ (v : Validity). validity_of v ≡ stored_validity (stored_of c.self.inside.storage))
    (λ (v : Validity). (i : ℕ) → i < length c.args.self.now.rows
    → is_valid_row (validity_of v) i ≡ not (is_null (row c.args.self.now.rows i)))
    (λ v e i h. ap (λ (w : ValidityView). is_valid_row w i) e
    ∙ opened_validity c.self.inside _ c.self.view_is i h)
    c.validity.ensures
