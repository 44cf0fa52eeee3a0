use Rattle.std.proofs.Common.{◌≡◌, ◌∙◌, ap, map}
use Rattle.rowfn_batches.specs.Fields.{field_in}
use Rattle.rowfn_batches.specs.BatchAnswers.{row_number}
use Rattle.rowfn_batches.proofs.FilteredRows.{ends_so}
use Rattle.rowfn_batches.proofs.filter.Condition.answer.Goals as goal

pub returns-clause-ends : goal.returns-clause-ends
returns-clause-ends c =
    let given : c.deref-2.result.now ≡ c.in_ok-fields.fields.items = cc c.deref-2.ensures.value in
    ends_so c.args.self.now.asked (map field_in c.deref-2.result.now)
    c.args.self.now.batch.fields c.deref.result.now c.args.self.now.layout.places.items
    c.len.result _ (row_number c.args.rows_before) c.args.error c.answer_batch.result
    (ap (λ xs. map field_in xs) given ∙ c.in_ok-fields.ensures) (cc c.deref.ensures.value)
    c.len.ensures c.answer_batch.ensures.ends
