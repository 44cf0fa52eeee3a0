use Rattle.std.proofs.Common.{◌≡◌, ◌∙◌, ◌-◌, ◌<◌, Some, None, ap, arith, subst, to_z, of_z, to_z-of_z, w64}
use Rattle.std.specs.Option.{option_or}
use Rattle.vortex_float_texts.specs.FloatTexts.{candidate_at, first_from}
use Rattle.vortex_float_texts.proofs.Firsts.{first_step, first_none}
use Rattle.vortex_float_texts.proofs.texts.first_from.Goals as goal

pub returns-in-Some : goal.returns-in-Some
returns-in-Some c =
    let number : to_z w64 (of_z w64 c.args.number) ≡ c.args.number = to_z-of_z c.ranges.number in
    let z = to_z w64 (of_z w64 c.args.number) in
    let k = c.loop-place.place in
    let made = rw c.in-Some.is at c.in_ok-text.ensures in
    let all : first_from c.args.width z c.args.halves c.args.power c.args.places ≡ Some c.in-Some.text.items =
    c.loop-place.invariant.same
    ∙ first_step c.args.width z c.args.halves c.args.power k c.loop-place-test.true
    ∙ ap (λ o. option_or o (first_from c.args.width z c.args.halves c.args.power (k - 1))) made in
    subst (λ y. first_from c.args.width y c.args.halves c.args.power c.args.places ≡ Some c.in-Some.text.items) number all

pub loop-place-preserved : goal.loop-place-preserved
loop-place-preserved c =
    let z = to_z w64 (of_z w64 c.args.number) in
    let k = c.loop-place.place in
    let made = rw c.in-None.is at c.in_ok-text.ensures in
    record {
      few = omega (arith, c.loop-place.invariant.few);
      same = c.loop-place.invariant.same
          ∙ first_step c.args.width z c.args.halves c.args.power k c.loop-place-test.true
          ∙ ap (λ o. option_or o (first_from c.args.width z c.args.halves c.args.power (k - 1))) made;
    }

pub returns : goal.returns
returns c =
    let number : to_z w64 (of_z w64 c.args.number) ≡ c.args.number = to_z-of_z c.ranges.number in
    let z = to_z w64 (of_z w64 c.args.number) in
    let last : c.loop-place.place ≡ 0 = omega (arith, c.loop-place-test.false) in
    let all : first_from c.args.width z c.args.halves c.args.power c.args.places ≡ None =
    c.loop-place.invariant.same
    ∙ ap (λ k. first_from c.args.width z c.args.halves c.args.power k) last
    ∙ first_none c.args.width z c.args.halves c.args.power in
    subst (λ y. first_from c.args.width y c.args.halves c.args.power c.args.places ≡ None) number all
