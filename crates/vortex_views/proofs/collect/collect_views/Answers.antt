use Rattle.std.proofs.lemmas.Result.{err_from_is_err_and}
use Rattle.vortex_views.proofs.Collecting.{next_has_room, next_kept}
use Rattle.vortex_views.specs.Built.{HasRoomFor}
use Rattle.vortex_views.specs.Collected.{HaveRoom}
use Rattle.std.proofs.Common.{map, ap, ◌∙◌}
use Rattle.vortex_views.proofs.Pushing.{refused_sooner}
use Rattle.vortex_views.proofs.collect.collect_views.Goals as goal

pub returns-in_err-push : goal.returns-in_err-push
returns-in_err-push g c =
    let f = g.T.ByteString.bytes in
    let p = err_from_is_err_and c.from_residual-in_err-push.result c.from_residual-in_err-push.ensures.1 in
    rw (p.1, p.2)
    (refused_sooner (HasRoomFor c.loop-value.builder c.borrow_bytes.result.now)
    (HaveRoom (map f c.args.values.now)) c.in_err-push.field-0.0
    (next_has_room f c.args.values.now c.loop-value.value-index c.value-item.result
    c.loop-value-test.true c.loop-value.builder c.borrow_bytes.result.now c.loop-value.invariant.0
    (c.borrow_bytes.ensures ∙ ap f c.value-item.is))
    c.in_err-push.ensures.answer)

pub loop-value-preserved : goal.loop-value-preserved
loop-value-preserved g c =
    let f = g.T.ByteString.bytes in
    let xs = c.args.values.now in
    let k = c.loop-value.value-index in
    let kept =
    next_kept f xs k c.value-item.result c.loop-value-test.true c.loop-value.builder
    c.borrow_bytes.result.now c.loop-value.invariant.0 (c.borrow_bytes.ensures ∙ ap f c.value-item.is)
    c.loop-value.invariant.1 c.in_ok-push.ensures.answer.0 in
    (c.in_ok-push.ensures.answer.1 ∙ kept.0, kept.1)
