use Rattle.std.proofs.Common.{◌∙◌, Ok, Err, Some, None, ap, refl}
use Rattle.std.proofs.lemmas.Result.{err_from_is_err_and}
use Rattle.rowfn_batches.proofs.stream.Stream.pass.Goals as goal

pub returns-in_err-error-clause-passes : goal.returns-in_err-error-clause-passes
returns-in_err-error-clause-passes g c =
    let p = err_from_is_err_and c.from_residual.result c.from_residual.ensures.1 in
    (Err c.in_err-error.field-0.0, c.in_err-error.ensures.passes, p.1 ∙ ap Err p.2)

pub returns-in-Some-clause-passes : goal.returns-in-Some-clause-passes
returns-in-Some-clause-passes g c =
    (Ok (Some c.in-Some.error), rw c.in-Some.is at c.in_ok-error.ensures.passes, refl)

pub returns-in-None-clause-passes : goal.returns-in-None-clause-passes
returns-in-None-clause-passes g c =
    (Ok None, rw c.in-None.is at c.in_ok-error.ensures.passes, refl)
