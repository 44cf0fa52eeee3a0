use Rattle.std.proofs.Common.{◌≡◌, ◌<◌, ◌≤◌, ◌^◌, ◌+◌, arith, subst, sym}
use Rattle.vortex_float_texts.proofs.Fifteen.{limit_next, past_next, found}
use Rattle.vortex_float_texts.proofs.leading.after_fifteen.Goals as goal

pub returns-then-number-limit-clause-value : goal.returns-then-number-limit-clause-value
returns-then-number-limit-clause-value c =
    let i = c.loop-place.invariant in
    sym (found c.args.number c.loop-place.place (omega (arith, c.loop-place-test.true)) (omega (arith, i.limit, c.if-number-limit.true)) i.past)

pub loop-place-preserved : goal.loop-place-preserved
loop-place-preserved c =
    let i = c.loop-place.invariant in
    record {
      limit = limit_next c.loop-place.place c.loop-place.limit i.limit;
      past = λ _. past_next c.loop-place.place c.loop-place.limit c.args.number i.limit c.if-number-limit.false;
    }

pub returns-clause-value : goal.returns-clause-value
returns-clause-value c =
    let last : c.loop-place.place ≡ 10 = omega (arith, c.loop-place-test.false, c.loop-place.auto.place-end) in
    let past = subst (λ p. 0 < p → 10 ^ (14 + p) ≤ c.args.number) last c.loop-place.invariant.past in
    sym (found c.args.number 10 (omega arith) (omega (arith, c.requires)) past)
