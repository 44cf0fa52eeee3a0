use Rattle.std.proofs.Common.{◌∙◌, ℕ, Err, ap, refl, take, drop, arith}
use Rattle.std.proofs.lemmas.Result.{err_from_is_err_and}
use Rattle.rowfn_batches.specs.Skipping.{loaded, not_loaded}
use Rattle.rowfn_batches.proofs.Skipped.{has_part}
use Rattle.rowfn_batches.proofs.stream.Stream.pass_part.Goals as goal

pub returns-in_err-load : goal.returns-in_err-load
returns-in_err-load g c =
    let p = err_from_is_err_and c.from_residual.result c.from_residual.ensures.1 in
    not_loaded refl (p.1 ∙ ap Err p.2)

pub returns : goal.returns
returns g c =
    loaded c.load.new.self c.in_ok-load.ensures.refilled
    (has_part c.args.fields.now c.args.asked.now c.fields_from-fields.result.now
    c.fields_from-asked.result.now c.args.spans.now _ c.args.part.0 c.args.part.1 c.len-width.result
    c.condition_width.result c.args.self.now c.load.new.self c.in_ok-load.ensures.refilled
    (c.len-width.ensures ∙ c.args.self.now.layout.places.ok.0) c.condition_width.ensures
    c.fields_from-fields.ensures c.fields_from-asked.ensures
    (ap (λ (n : ℕ). take n (drop c.args.part.0 c.args.spans.now)) (omega arith))
    c.in_ok-load.ensures.loaded)
    c.pass_reporting.ensures
