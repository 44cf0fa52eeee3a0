use Rattle.std.proofs.Common.{◌≡◌, ◌+◌, ◌*◌, ◌-◌, ◌/◌, ◌≤◌, ◌<◌, ◌∙◌, ◌⊎◌, inl, inr, ℕ, pos, length, map, take}
use Rattle.std.proofs.Common.{sym, ap, refl, arith, true, false}
use Rattle.std.proofs.lemmas.Bool.{cases_lt}
use Rattle.vortex_bits.specs.Bits.{bit}
use Rattle.vortex_arrow.specs.Written.{places}
use Rattle.vortex_arrow.proofs.Numbered.{count_more, numbers_more}
use Rattle.vortex_arrow.proofs.Parts.{drop_further}
use Rattle.vortex_arrow.proofs.Places.{no_places, at_most, fewer_before}
use Rattle.vortex_arrow.proofs.set_bits.write_set.Goals as goal

pub returns-then-count-eq0 : goal.returns-then-count-eq0
returns-then-count-eq0 g c =
    let test = g.W.BitWords.row_bit c.args.rows.now in
    let none : 0 ≡ c.args.count = omega arith in
    let empty = sym (no_places test) ∙ ap (places test) none in
    record {
      end = ap length empty;
      numbers = ap (map pos) empty;
      behind = refl;
    }

pub loop-k-init : goal.loop-k-init
loop-k-init g c =
    let none = no_places (g.W.BitWords.row_bit c.args.rows.now) in
    record {
      end = omega (arith, ap length none);
      numbers = ap (map pos) (sym none);
      behind = refl;
    }

pub write_places-end-requires : goal.write_places-end-requires
write_places-end-requires g c =
    let test = g.W.BitWords.row_bit c.args.rows.now in
    let k = c.loop-k.k in
    let count = c.args.count in
    let more =
    count_more test (64 * k) 64 c.word.result (omega arith) c.word.ensures
    (λ j le lt. absurd (omega (arith, le, lt))) in
    let fewer = fewer_before test (64 * k + 64) count (omega arith) in
    record {
      room = omega (
        arith,
        c.loop-k.invariant.end,
        more,
        fewer,
        c.requires.room,
        c.loop-k.auto.numbers,
      );
      end = omega (arith, c.loop-k.invariant.end, more, fewer, at_most test count);
      most = λ j lt set. omega (arith, lt, c.requires.most);
      fits = λ j lt set. omega (arith, lt);
    }

pub loop-k-preserved : goal.loop-k-preserved
loop-k-preserved g c =
    let f = g.I.IndexType.number in
    let test = g.W.BitWords.row_bit c.args.rows.now in
    let k = c.loop-k.k in
    let word = c.word.result in
    let next : 64 * k + 64 ≡ 64 * (k + 1) = omega arith in
    let written = c.write_places-end.ensures in
    record {
      end = omega (
        arith,
        ap (λ n. length (places test n)) next,
        count_more test (64 * k) 64 word (omega arith) c.word.ensures
            (λ j le lt. absurd (omega (arith, le, lt))),
        written.end,
        c.loop-k.invariant.end,
      );
      numbers = numbers_more test (64 * k) 64 word (omega arith) c.word.ensures
          (λ j le lt. absurd (omega (arith, le, lt))) f (take c.loop-k.end c.loop-k.numbers)
          (take c.write_places-end.result c.write_places-end.new.numbers)
          c.loop-k.invariant.numbers written.numbers
          ∙ ap (λ n. map pos (places test n)) next;
      behind = written.behind
          ∙ drop_further c.loop-k.numbers c.args.numbers.now c.loop-k.end c.write_places-end.result
          (omega (arith, written.end)) c.loop-k.invariant.behind;
    }

-- a bit of the last word that is set is a row's
set_within : (word rest j : ℕ) → ((j : ℕ) → rest ≤ j → j < 64 → bit word j ≡ false) → j < 64
    → bit word j ≡ true → j < rest
set_within word rest j none lt set = by (cases_lt j rest)
  where
    by : (j < rest) ⊎ (rest ≤ j) → j < rest
    by (inl within) = within
    by (inr over) = let clear = none j over lt in absurd (cc)

pub write_places-requires : goal.write_places-requires
write_places-requires g c =
    let test = g.W.BitWords.row_bit c.args.rows.now in
    let count = c.args.count in
    let whole = (count - 1) / 64 in
    let rest = count - 64 * whole in
    let word = c.first_bits-last.result in
    let through : c.loop-k.k ≡ whole = omega arith in
    let all : 64 * whole + rest ≡ count = omega arith in
    let above = c.first_bits-last.ensures.above in
    let more =
    count_more test (64 * whole) rest word (omega arith)
    (λ j lt. c.first_bits-last.ensures.first j lt ∙ c.last.ensures j lt) above in
    let so_far = c.loop-k.invariant.end ∙ ap (λ n. length (places test (64 * n))) through in
    let total = ap (λ n. length (places test n)) all in
    record {
      room = omega (arith, so_far, more, total, c.requires.room, c.loop-k.auto.numbers);
      end = omega (arith, so_far, more, total, at_most test count);
      most = λ j lt set. omega (arith, set_within word rest j above lt set, c.requires.most);
      fits = λ j lt set. omega (arith, set_within word rest j above lt set);
    }

pub returns : goal.returns
returns g c =
    let f = g.I.IndexType.number in
    let test = g.W.BitWords.row_bit c.args.rows.now in
    let count = c.args.count in
    let whole = (count - 1) / 64 in
    let rest = count - 64 * whole in
    let word = c.first_bits-last.result in
    let through : c.loop-k.k ≡ whole = omega arith in
    let all : 64 * whole + rest ≡ count = omega arith in
    let says = λ (j : ℕ) (lt : j < rest). c.first_bits-last.ensures.first j lt ∙ c.last.ensures j lt in
    let above = c.first_bits-last.ensures.above in
    let written = c.write_places.ensures in
    record {
      end = omega (
        arith,
        ap (λ n. length (places test n)) all,
        ap (λ n. length (places test (64 * n))) through,
        count_more test (64 * whole) rest word (omega arith) says above,
        written.end,
        c.loop-k.invariant.end,
      );
      numbers = numbers_more test (64 * whole) rest word (omega arith) says above f
          (take c.loop-k.end c.loop-k.numbers)
          (take c.write_places.result c.write_places.new.numbers)
          (c.loop-k.invariant.numbers ∙ ap (λ n. map pos (places test (64 * n))) through)
          written.numbers
          ∙ ap (λ n. map pos (places test n)) all;
      behind = written.behind
          ∙ drop_further c.loop-k.numbers c.args.numbers.now c.loop-k.end c.write_places.result
          (omega (arith, written.end)) c.loop-k.invariant.behind;
    }
