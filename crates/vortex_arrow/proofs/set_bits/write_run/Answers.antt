use Rattle.std.proofs.Common.{◌≡◌, ◌+◌, ◌-◌, ◌<◌, ◌∙◌, ◌++◌, ◌∷◌, [], pos, length, map, take, refl, sym, ap}
use Rattle.std.proofs.Common.{arith}
use Rattle.std.specs.List.{range_with_len}
use Rattle.std.proofs.lemmas.List.{append-nil}
use Rattle.vortex_arrow.proofs.Cells.{behind_next}
use Rattle.vortex_arrow.proofs.Numbered.{range_more}
use Rattle.vortex_arrow.proofs.Places.{placed_more}
use Rattle.vortex_arrow.proofs.set_bits.write_run.Goals as goal

pub loop-j-init : goal.loop-j-init
loop-j-init g c =
    let f = g.I.IndexType.number in
    let none : c.args.at - c.args.at ≡ 0 = omega arith in
    record {
      after = omega arith;
      end = omega arith;
      numbers = sym (append-nil (map f (take c.args.from c.args.numbers.now)))
          ∙ ap (λ d. map f (take c.args.from c.args.numbers.now)
          ++ map (λ j. pos (c.args.first + j)) (range_with_len c.args.at d)) (sym none);
      behind = refl;
    }

pub bounds-numbers-end : goal.bounds-numbers-end
bounds-numbers-end g c =
    omega (
      arith,
      c.loop-j.invariant.end,
      c.loop-j.invariant.after,
      c.requires.room,
      c.loop-j.auto.numbers,
    )

pub of_place-requires : goal.of_place-requires
of_place-requires g c = c.requires.most c.loop-j.j c.loop-j.invariant.after (omega arith)

pub overflow_add-first : goal.overflow_add-first
overflow_add-first g c =
    let fits = c.requires.fits c.loop-j.j c.loop-j.invariant.after (omega arith) in
    omega (arith, fits)

pub overflow_add-end : goal.overflow_add-end
overflow_add-end g c =
    omega (arith, c.loop-j.invariant.end, c.loop-j.invariant.after, c.requires.end)

pub loop-j-preserved : goal.loop-j-preserved
loop-j-preserved g c =
    let f = g.I.IndexType.number in
    let at = c.args.at in
    let j = c.loop-j.j in
    let end = c.loop-j.end in
    let next : j + 1 - at ≡ (j - at) + 1 = omega (arith, c.loop-j.invariant.after) in
    let here : at + (j - at) ≡ j = omega (arith, c.loop-j.invariant.after) in
    let within : end < length c.loop-j.numbers =
    omega (
      arith,
      c.loop-j.invariant.end,
      c.loop-j.invariant.after,
      c.requires.room,
      c.loop-j.auto.numbers,
    ) in
    record {
      after = omega (arith, c.loop-j.invariant.after);
      end = omega (arith, c.loop-j.invariant.end, c.loop-j.invariant.after);
      numbers = placed_more f c.loop-j.numbers end c.of_place.result
          (map f (take c.args.from c.args.numbers.now)) c.args.first j (range_with_len at (j - at)) _
          within c.loop-j.invariant.numbers c.of_place.ensures
          (ap (range_with_len at) next
          ∙ range_more at (j - at)
          ∙ ap (λ n. range_with_len at (j - at) ++ n ∷ []) here);
      behind = behind_next f c.loop-j.numbers end c.of_place.result within c.args.numbers.now
          c.loop-j.invariant.behind;
    }

pub returns : goal.returns
returns g c =
    let f = g.I.IndexType.number in
    let through : c.loop-j.j ≡ c.args.to = omega (arith, c.requires.order) in
    record {
      end = c.loop-j.invariant.end ∙ ap (λ n. c.args.from + (n - c.args.at)) through;
      numbers = c.loop-j.invariant.numbers
          ∙ ap (λ n. map f (take c.args.from c.args.numbers.now)
          ++ map (λ j. pos (c.args.first + j)) (range_with_len c.args.at (n - c.args.at))) through;
      behind = c.loop-j.invariant.behind;
    }
