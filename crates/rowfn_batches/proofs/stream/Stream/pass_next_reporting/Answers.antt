use Rattle.std.proofs.Common.{◌∙◌, Ok, Err, Bool, ap, not}
use Rattle.std.proofs.lemmas.Result.{err_from_is_err_and}
use Rattle.rowfn_batches.specs.Skipping.{batch_and_behind, ends_in_batch, ends_behind}
use Rattle.rowfn_batches.specs.Skipping.{lines_unwritten}
use Rattle.rowfn_batches.proofs.stream.Stream.pass_next_reporting.Goals as goal

pub returns-in_err-pass_batch : goal.returns-in_err-pass_batch
returns-in_err-pass_batch g c =
    let p = err_from_is_err_and c.from_residual.result c.from_residual.ensures.1 in
    ends_in_batch c.fill-filled.new.self c.in_err-pass_batch.field-0.0 c.fill-filled.ensures
    c.in_err-pass_batch.ensures (p.1 ∙ ap Err p.2)

pub returns-in_err-pass_after : goal.returns-in_err-pass_after
returns-in_err-pass_after g c =
    let p = err_from_is_err_and c.from_residual-in_err-pass_after.result
    c.from_residual-in_err-pass_after.ensures.1 in
    ends_behind c.fill-filled.new.self c.pass_batch.new.self c.fill-filled.result
    c.pass_batch.new.refusals.count c.in_err-pass_after.field-0.0 c.fill-filled.ensures
    c.in_ok-pass_batch.ensures (rw c.into_error.ensures at c.in_err-pass_after.ensures)
    (p.1 ∙ ap Err p.2)

pub returns-in_err-flush : goal.returns-in_err-flush
returns-in_err-flush g c =
    let p = err_from_is_err_and c.from_residual-in_err-flush.result
    c.from_residual-in_err-flush.ensures.1 in
    lines_unwritten c.fill-filled.new.self c.pass_batch.new.self c.fill-filled.result
    c.pass_batch.new.refusals.count c.in_err-flush.field-0.0 c.fill-filled.ensures
    c.in_ok-pass_batch.ensures
    (rw c.in_err-flush.ensures.count (rw c.into_error.ensures at c.in_ok-pass_after.ensures))
    c.in_err-flush.ensures.refused (p.1 ∙ ap Err p.2)

pub returns : goal.returns
returns g c =
    batch_and_behind c.fill-filled.new.self c.pass_batch.new.self c.fill-filled.result
    c.pass_batch.new.refusals.count c.fill-filled.ensures
    c.in_ok-pass_batch.ensures
    (rw c.in_ok-flush.ensures.count (rw c.into_error.ensures at c.in_ok-pass_after.ensures))
    (ap (λ (b : Bool). Ok (not b)) c.is_end-goes_on.ensures)
