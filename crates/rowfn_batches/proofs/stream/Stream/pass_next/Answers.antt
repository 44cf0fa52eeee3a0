use Rattle.std.proofs.Common.{◌∙◌, Ok, Err, ap}
use Rattle.std.proofs.lemmas.Result.{err_from_is_err_and}
use Rattle.rowfn_batches.specs.Passing.{passed_on, ended_there}
use Rattle.rowfn_batches.proofs.stream.Stream.pass_next.Goals as goal

pub returns-in_err-pass : goal.returns-in_err-pass
returns-in_err-pass g c =
    let p = err_from_is_err_and c.from_residual.result c.from_residual.ensures.1 in
    ended_there c.fill-filled.new.self c.fill-filled.result c.in_err-pass.field-0.0
    c.fill-filled.ensures (rw c.into_error.ensures at c.in_err-pass.ensures.passes)
    (p.1 ∙ ap Err p.2)

pub returns : goal.returns
returns g c =
    passed_on c.fill-filled.new.self c.fill-filled.result c.fill-filled.ensures
    (rw c.into_error.ensures at c.in_ok-pass.ensures.passes)
    (rw c.into_error.ensures at c.in_ok-pass.ensures.behind) (ap Ok c.goes_on-goes_on.ensures)
