use Rattle.std.proofs.Common.{ap, subst, sym, ◌∙◌, ◌≡◌, ◌≤◌, ℕ, ◌++◌, ◌∷◌, [], length}
use Rattle.std.proofs.lemmas.Result.{err_from_is_err_and}
use Rattle.vortex_views.specs.Placing.{most_buffers, placed, placed_after}
use Rattle.vortex_views.specs.Building.{filled}
use Rattle.vortex_views.specs.Built.{HasRoomFor}
use Rattle.vortex_views.proofs.Pushing.{pushed_fit, pushed_values, pushed_placed, pushed_range}
use Rattle.vortex_views.proofs.Pushing.{needed_after, refused_sooner}
use Rattle.vortex_views.proofs.builder.ViewsBuilder.push.Goals as goal

pub returns-in_err-view-clause-answer : goal.returns-in_err-view-clause-answer
returns-in_err-view-clause-answer c =
    let old = c.self.inside.buffers in
    let value = c.args.value.now in
    let same = needed_after (filled old) c.args.self.now value
    (c.self.invariant.filled_is ∙ ap placed c.self.view_is) in
    let p =
    err_from_is_err_and c.from_residual-in_err-view.result c.from_residual-in_err-view.ensures.1 in
    rw (p.1, p.2)
    (refused_sooner ((placed_after (filled old) (length value)).count ≤ most_buffers)
    (HasRoomFor c.args.self.now value) c.in_err-view.field-0.0
    (λ h. subst (λ (n : ℕ). n ≤ most_buffers) (sym same) h.buffers) c.in_err-view.ensures.answer)

pub invariant_of-self-2 : goal.invariant_of-self-2
invariant_of-self-2 c =
    let a = c.self.inside in
    let old = a.buffers in
    let new = c.put.new.self in
    let vs = a.views.items in
    let us = c.push_reserved.new.self.items in
    let w = c.in_ok-view.view in
    let value = c.args.value.now in
    let more : us ≡ vs ++ w ∷ [] =
    c.push_reserved.ensures.items ∙ ap (λ xs. xs ++ w ∷ []) c.try_reserve.ensures.items in
    let fit = c.self.invariant.fit in
    let is = c.in_ok-view.ensures.answer.1 in
    record {
      fit = pushed_fit old new vs us w value more fit is;
      filled_is = pushed_placed old new vs us w value more fit is c.self.invariant.filled_is;
      range = pushed_range old new vs us w value more fit is c.self.invariant.range
          c.if-value-gt-MOST_BYTES.false c.in_ok-view.ensures.answer.0;
    }

pub returns-clause-answer : goal.returns-clause-answer
returns-clause-answer c =
    let a = c.self.inside in
    let old = a.buffers in
    let new = c.put.new.self in
    let vs = a.views.items in
    let us = c.push_reserved.new.self.items in
    let w = c.in_ok-view.view in
    let value = c.args.value.now in
    let more : us ≡ vs ++ w ∷ [] =
    c.push_reserved.ensures.items ∙ ap (λ xs. xs ++ w ∷ []) c.try_reserve.ensures.items in
    let fit = c.self.invariant.fit in
    let is = c.in_ok-view.ensures.answer.1 in
    let placed_is : filled old ≡ placed c.args.self.now =
    c.self.invariant.filled_is ∙ ap placed c.self.view_is in (
      record {
        len = c.if-value-gt-MOST_BYTES.false;
        buffers = subst (λ (n : ℕ). n ≤ most_buffers)
            (needed_after (filled old) c.args.self.now value placed_is)
            c.in_ok-view.ensures.answer.0;
      },
      pushed_values old new vs us w value more fit is ∙ ap (λ xs. xs ++ value ∷ []) c.self.view_is,
    )
