use Rattle.std.proofs.Common.{◌∙◌, Err, ap, refl}
use Rattle.std.proofs.lemmas.Result.{err_from_is_err_and}
use Rattle.rowfn_batches.specs.Skipping.{at_once, but_for, ends_at_once}
use Rattle.rowfn_batches.proofs.stream.Stream.pass_batch.Goals as goal

pub returns-in_err-place : goal.returns-in_err-place
returns-in_err-place g c =
    let p = err_from_is_err_and c.from_residual.result c.from_residual.ensures.1 in
    ends_at_once c.in_err-place.field-0.0 c.in_err-place.ensures (p.1 ∙ ap Err p.2)

pub returns-in-Some : goal.returns-in-Some
returns-in-Some g c =
    but_for c.pass_reporting.new.self c.in-Some.place (g.W.Write.contents c.pass_reporting.new.writer)
    c.pass_reporting.new.refusals.count (rw c.in-Some.is at c.in_ok-place.ensures)
    (rw (← c.saturating_add.ensures) c.pass_rest.ensures)

pub returns-in-None : goal.returns-in-None
returns-in-None g c = at_once (rw c.in-None.is at c.in_ok-place.ensures) refl
