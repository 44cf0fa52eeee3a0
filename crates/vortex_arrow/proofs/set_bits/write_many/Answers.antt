use Rattle.std.proofs.Common.{◌≡◌, ◌+◌, ◌-◌, ◌<◌, ◌^◌, ◌∙◌, ◌++◌, pos, length, map, take, refl, sym, ap}
use Rattle.std.proofs.Common.{arith, w64, List, ℕ}
use Rattle.std.specs.Int.{trailing_zeros}
use Rattle.std.proofs.lemmas.Nat.{and_le_r}
use Rattle.std.proofs.lemmas.List.{append-nil}
use Rattle.vortex_bits.specs.Bits.{bit}
use Rattle.vortex_bits.proofs.WordLogic.{not_bit}
use Rattle.vortex_arrow.proofs.Lowest.{lowest_within}
use Rattle.vortex_arrow.proofs.Numbered.{gap_reached, gap_full, gap_clear, gaps_left, gaps_passed}
use Rattle.vortex_arrow.proofs.Numbered.{gap_count, all_full, run_length, run_numbers}
use Rattle.vortex_arrow.proofs.Parts.{drop_further}
use Rattle.vortex_arrow.proofs.Places.{no_places, next_none, fewer_before}
use Rattle.vortex_arrow.proofs.set_bits.write_many.Goals as goal

pub loop-gaps-init : goal.loop-gaps-init
loop-gaps-init g c =
    let f = g.I.IndexType.number in
    let before = map f (take c.args.from c.args.numbers.now) in
    let none = no_places (bit c.args.word) in
    record {
      within = omega arith;
      same = λ j le lt. not_bit c.args.word j (omega arith) lt;
      passed = λ j lt. absurd (omega (arith, lt));
      end = omega (arith, ap length none);
      numbers = sym (append-nil before)
          ∙ ap (λ (ps : List ℕ). before ++ map (λ j. pos (c.args.first + j)) ps) (sym none);
      behind = refl;
    }

pub write_run-end-requires : goal.write_run-end-requires
write_run-end-requires g c =
    let word = c.args.word in
    let gaps = c.loop-gaps.gaps in
    let at = c.loop-gaps.at in
    let some : 0 < gaps = omega arith in
    let fits : gaps < 2 ^ 64 = omega arith in
    let t = trailing_zeros w64 gaps in
    let same = c.loop-gaps.invariant.same in
    let passed = c.loop-gaps.invariant.passed in
    let count = gap_count word gaps at some fits same passed in
    let fewer = fewer_before (bit word) (t + 1) 64 (omega (arith, lowest_within gaps some fits)) in
    let full = gap_full word gaps at some fits same passed in
    let inside : (j : ℕ) → j < t → j < 64 = λ j lt. omega (arith, lt, lowest_within gaps some fits) in
    record {
      order = gap_reached word gaps at some fits same passed;
      room = omega (
        arith,
        c.loop-gaps.invariant.end,
        count,
        fewer,
        c.requires.room,
        c.loop-gaps.auto.numbers,
      );
      end = omega (arith, c.loop-gaps.invariant.end, count, fewer, c.requires.end);
      most = λ j le lt. c.requires.most j (inside j lt) (full j le lt);
      fits = λ j le lt. c.requires.fits j (inside j lt) (full j le lt);
    }

pub loop-gaps-smaller : goal.loop-gaps-smaller
loop-gaps-smaller g c = omega (arith, and_le_r c.loop-gaps.gaps (c.loop-gaps.gaps - 1))

pub loop-gaps-preserved : goal.loop-gaps-preserved
loop-gaps-preserved g c =
    let f = g.I.IndexType.number in
    let word = c.args.word in
    let gaps = c.loop-gaps.gaps in
    let at = c.loop-gaps.at in
    let some : 0 < gaps = omega arith in
    let fits : gaps < 2 ^ 64 = omega arith in
    let t = trailing_zeros w64 gaps in
    let same = c.loop-gaps.invariant.same in
    let passed = c.loop-gaps.invariant.passed in
    let before = map f (take c.args.from c.args.numbers.now) in
    let run = c.write_run-end.ensures in
    record {
      within = omega (arith, lowest_within gaps some fits);
      same = gaps_left word gaps at some fits same passed;
      passed = gaps_passed word gaps at some fits same passed;
      end = omega (
        arith,
        run.end,
        c.loop-gaps.invariant.end,
        gap_count word gaps at some fits same passed,
      );
      numbers = run_numbers (bit word) at t c.args.first before
          (map f (take c.loop-gaps.end c.loop-gaps.numbers))
          (map f (take c.write_run-end.result c.write_run-end.new.numbers))
          (gap_reached word gaps at some fits same passed)
          (gap_full word gaps at some fits same passed) c.loop-gaps.invariant.numbers run.numbers
          ∙ ap (λ (ps : List ℕ). before ++ map (λ j. pos (c.args.first + j)) ps)
          (sym (next_none (bit word) t (gap_clear word gaps at some fits same passed)));
      behind = run.behind
          ∙ drop_further c.loop-gaps.numbers c.args.numbers.now c.loop-gaps.end c.write_run-end.result
          (omega (arith, run.end)) c.loop-gaps.invariant.behind;
    }

pub write_run-requires : goal.write_run-requires
write_run-requires g c =
    let word = c.args.word in
    let at = c.loop-gaps.at in
    let none : c.loop-gaps.gaps ≡ 0 = omega arith in
    let full = all_full word c.loop-gaps.gaps at none c.loop-gaps.invariant.same in
    let count = run_length (bit word) at 64 c.loop-gaps.invariant.within full in
    record {
      order = c.loop-gaps.invariant.within;
      room = omega (
        arith,
        c.loop-gaps.invariant.end,
        count,
        c.requires.room,
        c.loop-gaps.auto.numbers,
      );
      end = omega (arith, c.loop-gaps.invariant.end, count, c.requires.end);
      most = λ j le lt. c.requires.most j lt (full j le lt);
      fits = λ j le lt. c.requires.fits j lt (full j le lt);
    }

pub returns : goal.returns
returns g c =
    let f = g.I.IndexType.number in
    let word = c.args.word in
    let at = c.loop-gaps.at in
    let none : c.loop-gaps.gaps ≡ 0 = omega arith in
    let full = all_full word c.loop-gaps.gaps at none c.loop-gaps.invariant.same in
    let run = c.write_run.ensures in
    record {
      end = omega (
        arith,
        run.end,
        c.loop-gaps.invariant.end,
        run_length (bit word) at 64 c.loop-gaps.invariant.within full,
      );
      numbers = run_numbers (bit word) at 64 c.args.first
          (map f (take c.args.from c.args.numbers.now))
          (map f (take c.loop-gaps.end c.loop-gaps.numbers))
          (map f (take c.write_run.result c.write_run.new.numbers)) c.loop-gaps.invariant.within full
          c.loop-gaps.invariant.numbers run.numbers;
      behind = run.behind
          ∙ drop_further c.loop-gaps.numbers c.args.numbers.now c.loop-gaps.end c.write_run.result
          (omega (arith, run.end)) c.loop-gaps.invariant.behind;
    }
