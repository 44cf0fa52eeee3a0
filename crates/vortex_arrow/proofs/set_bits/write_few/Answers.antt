use Rattle.std.proofs.Common.{◌≡◌, ◌≤◌, ◌<◌, ◌+◌, ◌-◌, ◌^◌, ◌∙◌, ◌++◌, ◌∷◌, ℕ, [], List, pos, true}
use Rattle.std.proofs.Common.{length, map, take, refl, sym, ap, arith, w64, bit_and}
use Rattle.std.specs.Int.{trailing_zeros}
use Rattle.std.specs.Int.Count.{trailing_of_zero}
use Rattle.std.proofs.lemmas.Nat.{and_le_l, trailing_le}
use Rattle.std.proofs.lemmas.List.{append-nil, length_push}
use Rattle.vortex_bits.specs.Bits.{bit}
use Rattle.vortex_arrow.specs.Written.{places}
use Rattle.vortex_arrow.proofs.Cells.{behind_next}
use Rattle.vortex_arrow.proofs.Lowest.{lowest_within, lowest_set, rest_above, none_below, later}
use Rattle.vortex_arrow.proofs.Lowest.{ones_are_places}
use Rattle.vortex_arrow.proofs.Places.{next_place, next_there, none_before, none_between, placed_more}
use Rattle.vortex_arrow.proofs.Numbered.{some_left, none_left}
use Rattle.vortex_arrow.proofs.set_bits.write_few.Goals as goal

pub loop-end-init : goal.loop-end-init
loop-end-init g c =
    let word = c.args.word in
    let fits : word < 2 ^ 64 = omega arith in
    let none = none_before (bit word) (trailing_zeros w64 word) (none_below word fits) in
    record {
      same = λ j le lt. refl;
      end = omega (arith, ap length none);
      numbers = sym (append-nil (map g.I.IndexType.number (take c.args.from c.args.numbers.now)))
          ∙ ap (λ (ps : List ℕ). map g.I.IndexType.number (take c.args.from c.args.numbers.now)
          ++ map (λ j. pos (c.args.first + j)) ps) (sym none);
      behind = refl;
    }

-- the lowest bit that is left is one of the word's
module _ (rest word : ℕ) (some : 0 < rest) (fits : rest < 2 ^ 64)
    (same : (j : ℕ) → trailing_zeros w64 rest ≤ j → j < 64 → bit rest j ≡ bit word j) where
  here : bit word (trailing_zeros w64 rest) ≡ true
  here =
      sym (same (trailing_zeros w64 rest) (omega arith) (lowest_within rest some fits))
      ∙ lowest_set rest some fits

  -- the next one, and no other between
  one_more : places (bit word) (trailing_zeros w64 (bit_and rest (rest - 1)))
      ≡ places (bit word) (trailing_zeros w64 rest) ++ trailing_zeros w64 rest ∷ []
  one_more =
      let t = trailing_zeros w64 rest in
      let next = bit_and rest (rest - 1) in
      let small : next < 2 ^ 64 = omega (arith, and_le_l rest (rest - 1)) in
      let ends : trailing_zeros w64 next ≤ 64 = trailing_le 64 next in
      none_between (bit word) (t + 1) (trailing_zeros w64 next) (later rest some fits)
      (λ i from lt.
      sym (same i (omega (arith, from)) (omega (arith, lt, ends)))
      ∙ sym (rest_above rest some fits i (omega (arith, from)))
      ∙ none_below next small i lt)
      ∙ next_place (bit word) t here

pub bounds-numbers-end : goal.bounds-numbers-end
bounds-numbers-end g c =
    let rest = c.loop-end.rest in
    let some : 0 < rest =
    some_left c.args.word rest
    (omega (arith, c.loop-end.invariant.end, ones_are_places c.args.word (omega arith))) in
    let fits : rest < 2 ^ 64 = omega arith in
    omega (
      arith,
      c.loop-end.invariant.end,
      next_there (bit c.args.word) (trailing_zeros w64 rest) 64 (lowest_within rest some fits)
          (here rest c.args.word some fits c.loop-end.invariant.same),
      c.requires.room,
      c.loop-end.auto.numbers,
    )

pub of_place-requires : goal.of_place-requires
of_place-requires g c =
    let rest = c.loop-end.rest in
    let some : 0 < rest =
    some_left c.args.word rest
    (omega (arith, c.loop-end.invariant.end, ones_are_places c.args.word (omega arith))) in
    let fits : rest < 2 ^ 64 = omega arith in
    c.requires.most (trailing_zeros w64 rest) (lowest_within rest some fits)
    (here rest c.args.word some fits c.loop-end.invariant.same)

pub overflow_add-first : goal.overflow_add-first
overflow_add-first g c =
    let rest = c.loop-end.rest in
    let some : 0 < rest =
    some_left c.args.word rest
    (omega (arith, c.loop-end.invariant.end, ones_are_places c.args.word (omega arith))) in
    let fits : rest < 2 ^ 64 = omega arith in
    let first_fits =
    c.requires.fits (trailing_zeros w64 rest) (lowest_within rest some fits)
    (here rest c.args.word some fits c.loop-end.invariant.same) in
    omega (arith, first_fits)

pub overflow_add-last : goal.overflow_add-last
overflow_add-last g c =
    omega (arith, c.requires.end, ones_are_places c.args.word (omega arith))

pub overflow_sub-rest : goal.overflow_sub-rest
overflow_sub-rest g c =
    let rest = c.loop-end.rest in
    let some : 0 < rest =
    some_left c.args.word rest
    (omega (arith, c.loop-end.invariant.end, ones_are_places c.args.word (omega arith))) in
    omega (arith, some)

pub overflow_add-end : goal.overflow_add-end
overflow_add-end g c =
    omega (arith, c.requires.end, ones_are_places c.args.word (omega arith))

pub loop-end-preserved : goal.loop-end-preserved
loop-end-preserved g c =
    let f = g.I.IndexType.number in
    let word = c.args.word in
    let rest = c.loop-end.rest in
    let t = trailing_zeros w64 rest in
    let some : 0 < rest =
    some_left c.args.word rest
    (omega (arith, c.loop-end.invariant.end, ones_are_places c.args.word (omega arith))) in
    let fits : rest < 2 ^ 64 = omega arith in
    let more = one_more rest word some fits c.loop-end.invariant.same in
    let within : c.loop-end.end < length c.loop-end.numbers =
    omega (
      arith,
      c.loop-end.invariant.end,
      next_there (bit word) t 64 (lowest_within rest some fits)
          (here rest word some fits c.loop-end.invariant.same),
      c.requires.room,
      c.loop-end.auto.numbers,
    ) in
    record {
      same = λ j le lt.
          rest_above rest some fits j (omega (arith, le, later rest some fits))
          ∙ c.loop-end.invariant.same j (omega (arith, le, later rest some fits)) lt;
      end = omega (
        arith,
        c.loop-end.invariant.end,
        ap length more,
        length_push (places (bit word) t) t,
      );
      numbers = placed_more f c.loop-end.numbers c.loop-end.end c.of_place.result
          (map f (take c.args.from c.args.numbers.now)) c.args.first t (places (bit word) t) _ within
          c.loop-end.invariant.numbers
          c.of_place.ensures more;
      behind = behind_next f c.loop-end.numbers c.loop-end.end c.of_place.result within
          c.args.numbers.now c.loop-end.invariant.behind;
    }

pub returns : goal.returns
returns g c =
    let f = g.I.IndexType.number in
    let empty : c.loop-end.rest ≡ 0 =
    none_left c.args.word c.loop-end.rest (omega arith) c.loop-end.invariant.same
    (omega (arith, c.loop-end.invariant.end, ones_are_places c.args.word (omega arith))) in
    let last : trailing_zeros w64 c.loop-end.rest ≡ 64 =
    ap (trailing_zeros w64) empty ∙ trailing_of_zero 64 in
    record {
      end = c.loop-end.invariant.end
          ∙ ap (λ n. c.args.from + length (places (bit c.args.word) n)) last;
      numbers = c.loop-end.invariant.numbers
          ∙ ap (λ n. map f (take c.args.from c.args.numbers.now)
          ++ map (λ j. pos (c.args.first + j)) (places (bit c.args.word) n)) last;
      behind = c.loop-end.invariant.behind;
    }
