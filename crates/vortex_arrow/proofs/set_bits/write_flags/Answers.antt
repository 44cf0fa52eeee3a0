use Rattle.std.proofs.Common.{◌≡◌, ◌+◌, ◌*◌, ◌-◌, ◌/◌, ◌∙◌, drop, refl, sym, ap, arith}
use Rattle.vortex_arrow.proofs.Flags.{more_flags}
use Rattle.vortex_arrow.proofs.Parts.{drop_further}
use Rattle.vortex_arrow.proofs.set_bits.write_flags.Goals as goal

pub loop-k-init : goal.loop-k-init
loop-k-init g c = record {
  flags = λ i lt. absurd (omega (arith, lt));
  behind = refl;
}

pub loop-k-preserved : goal.loop-k-preserved
loop-k-preserved g c =
    let k = c.loop-k.k in
    let next : 64 * (k + 1) ≡ 64 * k + 64 = omega arith in
    record {
      flags = λ i lt.
          more_flags (g.W.BitWords.row_bit c.args.rows.now) c.loop-k.out c.write_word_flags.new.out
          (64 * k) 64 c.word.result c.loop-k.invariant.flags c.write_word_flags.ensures.before
          c.write_word_flags.ensures.here c.word.ensures i (omega (arith, lt));
      behind = ap (λ n. drop n c.write_word_flags.new.out) next
          ∙ c.write_word_flags.ensures.behind
          ∙ drop_further c.loop-k.out c.args.out.now (64 * k) (64 * k + 64) (omega arith)
          c.loop-k.invariant.behind
          ∙ ap (λ n. drop n c.args.out.now) (sym next);
    }

pub returns-clause-flags : goal.returns-clause-flags
returns-clause-flags g c = λ i lt.
    let whole = (c.args.count - 1) / 64 in
    let rest = c.args.count - 64 * whole in
    let through : c.loop-k.k ≡ whole = omega arith in
    more_flags (g.W.BitWords.row_bit c.args.rows.now) c.loop-k.out c.write_word_flags-2.new.out
    (64 * whole) rest c.last.result
    (λ j h. c.loop-k.invariant.flags j (omega (arith, through, h)))
    c.write_word_flags-2.ensures.before c.write_word_flags-2.ensures.here c.last.ensures i
    (omega (arith, lt))

pub returns-clause-behind : goal.returns-clause-behind
returns-clause-behind g c =
    let whole = (c.args.count - 1) / 64 in
    let rest = c.args.count - 64 * whole in
    let through : c.loop-k.k ≡ whole = omega arith in
    let all : c.args.count ≡ 64 * whole + rest = omega arith in
    ap (λ n. drop n c.write_word_flags-2.new.out) all
    ∙ c.write_word_flags-2.ensures.behind
    ∙ drop_further c.loop-k.out c.args.out.now (64 * c.loop-k.k) (64 * whole + rest)
    (omega (arith, through)) c.loop-k.invariant.behind
    ∙ ap (λ n. drop n c.args.out.now) (sym all)
