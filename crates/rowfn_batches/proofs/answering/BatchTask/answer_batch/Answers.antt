use Rattle.std.proofs.Common.{refl}
use Rattle.rowfn_batches.specs.Batches.{IsLeftmost, IsTooLong}
use Rattle.rowfn_batches.specs.BatchAnswers.{with_batch, at_misfit, too_long, scope_of, kinds_of}
use Rattle.rowfn_batches.proofs.FirstRows.{are_first, of_first, if_ok-weaker}
use Rattle.rowfn_batches.proofs.answering.BatchTask.answer_batch.Goals as goal

pub answer_fitting-requires : goal.answer_fitting-requires
answer_fitting-requires c =
    rw c.deref.ensures.value
    (are_first c.args.self.now.asked c.args.fields.now c.args.row_count c.len.result
    c.len.ensures c.first_rows-whole.result.now c.first_rows-whole.ensures
    c.in-Ok.columns.items c.as_slice-kinds.result.now c.as_slice-kinds.ensures.value c.in-Ok.ensures)

pub returns-in-Ok-clause-ends : goal.returns-in-Ok-clause-ends
returns-in-Ok-clause-ends c =
    if_ok-weaker c.answer_fitting.result _ _
    (λ a h. (c.args.row_count, c.args.error, with_batch refl refl, h))
    c.answer_fitting.ensures.ends

pub returns-in-Err-Misfit-clause-ends : goal.returns-in-Err-Misfit-clause-ends
returns-in-Err-Misfit-clause-ends c =
    let x = c.args.self.now.asked in
    let row = c.in-Err-Misfit.row in
    let column = c.leftmost_misfit-column.result in
    let misfit = of_first x c.args.fields.now c.args.row_count c.len.result c.len.ensures
    c.first_rows-whole.result.now c.first_rows-whole.ensures
    (λ f. IsLeftmost (scope_of x) (kinds_of x) f c.args.self.now.places.now row column)
    (rw c.as_slice-kinds.ensures.value at c.leftmost_misfit-column.ensures) in
    let told = c.in_ok-misfit-in-Err-Misfit in
    if_ok-weaker c.answer_fitting-in-Err-Misfit.result _ _
    (λ a h. (row, _, at_misfit column told.misfit refl misfit told.ensures, h))
    c.answer_fitting-in-Err-Misfit.ensures.ends

pub returns-in-Err-TextsTooLong-clause-refused : goal.returns-in-Err-TextsTooLong-clause-refused
returns-in-Err-TextsTooLong-clause-refused c =
    let x = c.args.self.now.asked in
    let column = c.in-Err-TextsTooLong.column in
    let long = of_first x c.args.fields.now c.args.row_count c.len.result c.len.ensures
    c.first_rows-whole.result.now c.first_rows-whole.ensures
    (λ f. IsTooLong (scope_of x) (kinds_of x) f c.args.row_count column)
    (rw (c.in-Err-TextsTooLong.field-0-is, c.as_slice-kinds.ensures.value) at c.in-Err-TextsTooLong.ensures).1 in
    too_long column long c.in_ok-too_long-in-Err-TextsTooLong.ensures
