use Rattle.std.proofs.Common.{◌≡◌, length, sym, ap, ◌∙◌}
use Rattle.vortex_errors.proofs.Answering.{answers_where}
use Rattle.vortex_errors.specs.declared.error.VortexError.TheVariants.{InvalidColumn}
use Rattle.vortex_columns.specs.ValidityView.{FitsRows}
use Rattle.vortex_columns.specs.Stored.{bool_column}
use Rattle.vortex_rewriting.specs.ColumnValidity.{validity_by_form, validity_as_column}
use Rattle.vortex_rewriting.proofs.ValidBits.{plain, bits_are_validity}
use Rattle.vortex_rewriting.proofs.array_leaf.column_validity.Goals as goal

pub returns-in-Some : goal.returns-in-Some
returns-in-Some c =
    let column = c.args.column.now in
    let bits = c.in_ok-try_clone.field-0 in
    let same = c.in_ok-try_clone.ensures ∙ c.in-Some.ensures.1 in
    let form = ap (λ f. validity_by_form f column) (sym c.in-Some.ensures.0) in
    answers_where c.try_bool.result (FitsRows plain (length bits))
    (λ d. d ≡ bool_column bits plain) (λ d. d ≡ validity_as_column column) InvalidColumn tt
    (λ d is. is ∙ bits_are_validity column bits same ∙ form) c.try_bool.ensures
