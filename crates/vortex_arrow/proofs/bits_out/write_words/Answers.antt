use Rattle.std.proofs.Common.{◌≡◌, ◌+◌, ◌*◌, ◌-◌, ◌/◌, drop, sym, ap, ◌∙◌, arith}
use Rattle.vortex_arrow.specs.Written.{bytes_for}
use Rattle.vortex_arrow.proofs.Parts.{more_bits, drop_further}
use Rattle.vortex_arrow.proofs.bits_out.write_words.Goals as goal

pub loop-k-preserved : goal.loop-k-preserved
loop-k-preserved g c =
    let k = c.loop-k.k in
    let place : 8 * (k + 1) ≡ 8 * k + 8 = omega arith in
    record {
      bits = λ i lt.
          more_bits (g.W.BitWords.row_bit c.args.rows.now) c.loop-k.out c.write_word.new.out k 8 64
          c.word.result c.word.type_inv (omega arith) c.loop-k.invariant.bits
          c.write_word.ensures.before c.write_word.ensures.here c.word.ensures i (omega arith);
      behind = ap (λ n. drop n c.write_word.new.out) place
          ∙ c.write_word.ensures.behind
          ∙ drop_further c.loop-k.out c.args.out.now (8 * k) (8 * k + 8) (omega arith)
          c.loop-k.invariant.behind
          ∙ ap (λ n. drop n c.args.out.now) (sym place);
    }

pub returns-clause-bits : goal.returns-clause-bits
returns-clause-bits g c =
    let whole = (c.args.count - 1) / 64 in
    let rest = c.args.count - 64 * whole in
    let through : c.loop-k.k ≡ whole = omega arith in
    λ i lt.
    more_bits (g.W.BitWords.row_bit c.args.rows.now) c.loop-k.out c.write_word-2.new.out whole
    c.bytes_for.result rest c.first_bits-last.result c.first_bits-last.type_inv
    (omega (arith, c.bytes_for.ensures))
    (λ k h. c.loop-k.invariant.bits k (omega (arith, through, h)))
    c.write_word-2.ensures.before c.write_word-2.ensures.here
    (λ j h. c.first_bits-last.ensures.first j h ∙ c.last.ensures j h) i (omega arith)

pub returns-clause-behind : goal.returns-clause-behind
returns-clause-behind g c =
    let whole = (c.args.count - 1) / 64 in
    let end = 8 * whole + c.bytes_for.result in
    let through : c.loop-k.k ≡ whole = omega arith in
    let place : bytes_for c.args.count ≡ end = omega (arith, c.bytes_for.ensures) in
    ap (λ n. drop n c.write_word-2.new.out) place
    ∙ c.write_word-2.ensures.behind
    ∙ drop_further c.loop-k.out c.args.out.now (8 * c.loop-k.k) end (omega (arith, through))
    c.loop-k.invariant.behind
    ∙ ap (λ n. drop n c.args.out.now) (sym place)
