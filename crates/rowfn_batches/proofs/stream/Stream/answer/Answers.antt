use Rattle.std.proofs.Common.{◌∙◌, ap, map, option_map}
use Rattle.std.proofs.lemmas.Result.{err_from_is_err_and}
use Rattle.rowfn_batches.specs.Fields.{field_in}
use Rattle.rowfn_batches.proofs.Passed.{is_answered, is_left}
use Rattle.rowfn_batches.proofs.stream.Stream.answer.Goals as goal

pub returns-in_err-answered : goal.returns-in_err-answered
returns-in_err-answered g c =
    let t = c.in_ok-fields.field-0 in
    let p = err_from_is_err_and c.from_residual-in_err-answered.result
    c.from_residual-in_err-answered.ensures.1 in
    rw (p.1, p.2)
    (is_left c.args.self.now c.args.error t.error (map field_in t.fields.items) _ t.row_count
    c.in_ok-fields.ensures c.task-task.result.asked c.task-task.ensures.asked.0
    (map field_in c.deref.result.now) (ap (λ xs. map field_in xs) (cc c.deref.ensures.value))
    c.task-task.result.places.now c.task-task.ensures.asked.1 c.task-task.result.rows_before
    c.task-task.ensures.numbers.0 (option_map (λ r. r.now) c.task-task.result.rows)
    (ap (λ o. option_map (λ r. r.now) o) c.task-task.ensures.numbers.1 ∙ c.slice_of.ensures)
    _ c.in_err-answered.ensures.refused)

pub returns : goal.returns
returns g c =
    let t = c.in_ok-fields.field-0 in
    is_answered c.args.self.now c.args.error t.error (map field_in t.fields.items) _ t.row_count
    c.in_ok-fields.ensures c.task-task.result.asked c.task-task.ensures.asked.0
    (map field_in c.deref.result.now) (ap (λ xs. map field_in xs) (cc c.deref.ensures.value))
    c.task-task.result.places.now c.task-task.ensures.asked.1 c.task-task.result.rows_before
    c.task-task.ensures.numbers.0 (option_map (λ r. r.now) c.task-task.result.rows)
    (ap (λ o. option_map (λ r. r.now) o) c.task-task.ensures.numbers.1 ∙ c.slice_of.ensures)
    c.in_ok-answered.answered c.in_ok-answered.ensures.rows c.in_ok-answered.ensures.ends
