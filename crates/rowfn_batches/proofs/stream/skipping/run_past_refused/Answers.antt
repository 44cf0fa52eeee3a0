use Rattle.std.proofs.Common.{◌≡◌, ◌∙◌, Err, true, false, ap, refl, option_map, add-one, rules, arith}
use Rattle.std.proofs.lemmas.Result.{err_from_is_err_and}
use Rattle.rowfn_batches.specs.Skipping.{none_yet, one_more, at_end, at_last_turn, at_error}
use Rattle.rowfn_batches.specs.Skipping.{without_header, not_begun}
use Rattle.rowfn_batches.proofs.Flowing.{has_begun}
use Rattle.rowfn_batches.proofs.stream.skipping.run_past_refused.Goals as goal

pub returns-in_err-stream-clause-flows : goal.returns-in_err-stream-clause-flows
returns-in_err-stream-clause-flows g c =
    let p = err_from_is_err_and c.from_residual.result c.from_residual.ensures.1 in
    not_begun c.in_err-stream.field-0.0 c.in_err-stream.ensures.starts refl refl (p.1 ∙ ap Err p.2)

pub returns-in_err-write-clause-flows : goal.returns-in_err-write-clause-flows
returns-in_err-write-clause-flows g c =
    let p = err_from_is_err_and c.from_residual-in_err-write.result
    c.from_residual-in_err-write.ensures.1 in
    without_header c.in_ok-stream.stream c.in_err-write.field-0.0 c.in_ok-stream.ensures.starts
    c.in_err-write.ensures.refused refl (p.1 ∙ ap Err p.2)

pub batches-init : goal.batches-init
batches-init g c = none_yet

pub batches-preserved : goal.batches-preserved
batches-preserved g c =
    let on : c.in_ok-goes_on.goes_on ≡ true = search rules in
    rw add-one
    (one_more c.batches._turn c.batches.stream c.pass_next_reporting.new.self _ _ _ _
    c.batches.invariant (rw on at c.in_ok-goes_on.ensures))

pub returns-in_err-goes_on-clause-flows : goal.returns-in_err-goes_on-clause-flows
returns-in_err-goes_on-clause-flows g c =
    let p = err_from_is_err_and c.from_residual-in_err-goes_on.result
    c.from_residual-in_err-goes_on.ensures.1 in
    let head = c.in_ok-stream.ensures in
    let wrote = c.in_ok-write.ensures in
    at_error c.batches._turn c.write.new.self c.batches.stream c.pass_next_reporting.new.self
    (g.W.Write.contents c.write.new.writer)
    (g.W.Write.contents c.batches.writer) c.batches.refusals.count
    c.in_err-goes_on.field-0.0
    (has_begun c.args.reader c.args.settings.now c.args.asked.now
    (option_map (λ x. x.now) c.args.condition)
    (g.W.Write.contents c.args.writer.now)
    (g.W.Write.contents c.write.new.writer) c.in_ok-stream.stream c.write.new.self
    head.starts wrote.written wrote.kept wrote.cleared wrote.summary)
    c.batches.invariant c.in_err-goes_on.ensures (p.1 ∙ ap Err p.2)

pub returns-then-not-goes_on-clause-flows : goal.returns-then-not-goes_on-clause-flows
returns-then-not-goes_on-clause-flows g c =
    let head = c.in_ok-stream.ensures in
    let wrote = c.in_ok-write.ensures in
    let off : c.in_ok-goes_on.goes_on ≡ false = search rules in
    at_end c.batches._turn c.write.new.self c.batches.stream c.pass_next_reporting.new.self
    (g.W.Write.contents c.write.new.writer) (g.W.Write.contents c.batches.writer)
    c.batches.refusals.count
    (has_begun c.args.reader c.args.settings.now c.args.asked.now
    (option_map (λ x. x.now) c.args.condition)
    (g.W.Write.contents c.args.writer.now)
    (g.W.Write.contents c.write.new.writer) c.in_ok-stream.stream c.write.new.self
    head.starts wrote.written wrote.kept wrote.cleared wrote.summary)
    c.batches.invariant (rw off at c.in_ok-goes_on.ensures) refl

pub returns-clause-flows : goal.returns-clause-flows
returns-clause-flows g c =
    let head = c.in_ok-stream.ensures in
    let wrote = c.in_ok-write.ensures in
    let last : c.batches._turn ≡ 18446744073709551615 = omega arith in
    at_last_turn c.write.new.self c.batches.stream (g.W.Write.contents c.write.new.writer)
    (has_begun c.args.reader c.args.settings.now c.args.asked.now
    (option_map (λ x. x.now) c.args.condition)
    (g.W.Write.contents c.args.writer.now)
    (g.W.Write.contents c.write.new.writer) c.in_ok-stream.stream c.write.new.self
    head.starts wrote.written wrote.kept wrote.cleared wrote.summary)
    (rw last at c.batches.invariant) refl
