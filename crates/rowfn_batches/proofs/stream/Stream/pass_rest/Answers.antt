use Rattle.std.proofs.Common.{◌∙◌, Err, ap, refl, map}
use Rattle.std.proofs.lemmas.Result.{err_from_is_err_and}
use Rattle.rowfn_csv.specs.Batches.{BatchView}
use Rattle.rowfn_batches.specs.Fields.{field_in}
use Rattle.rowfn_batches.specs.Skipping.{rest, no_rest}
use Rattle.rowfn_batches.proofs.Skipped.{all_borrowed}
use Rattle.rowfn_batches.proofs.stream.Stream.pass_rest.Goals as goal

pub returns-in_err-fields : goal.returns-in_err-fields
returns-in_err-fields g c =
    let p = err_from_is_err_and c.from_residual.result c.from_residual.ensures.1 in
    no_rest refl (p.1 ∙ ap Err p.2)

pub returns-in_err-fields_option : goal.returns-in_err-fields_option
returns-in_err-fields_option g c =
    let p = err_from_is_err_and c.from_residual-in_err-fields_option.result
    c.from_residual-in_err-fields_option.ensures.1 in
    no_rest refl (p.1 ∙ ap Err p.2)

pub returns : goal.returns
returns g c =
    let taken = c.take_rows-rows.ensures in
    rest c.take_rows-rows.new.self taken.refilled
    (all_borrowed (map field_in c.deref.result.now)
    (map field_in c.deref-2.result.now) _ _ _ _ _ _ _ _ _ _ _ _
    (ap (λ xs. map field_in xs) (cc c.deref.ensures.value) ∙ c.in_ok-fields.ensures
    ∙ ap (λ (b : BatchView). b.fields) taken.rows)
    (ap (λ xs. map field_in xs) (cc c.deref-2.ensures.value) ∙ c.in_ok-fields_option.ensures
    ∙ taken.asked)
    (c.spans.ensures ∙ ap (λ (b : BatchView). b.spans) taken.rows) c.pass_parts.ensures)
