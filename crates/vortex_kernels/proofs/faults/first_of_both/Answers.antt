use Rattle.std.proofs.Common.{◌<◌, ◌^◌, length, bit_and, refl, arith}
use Rattle.std.specs.Int.Bits.{and_lt}
use Rattle.vortex_kernels.proofs.FaultRows.{none_more, found_in_word}
use Rattle.vortex_kernels.proofs.faults.first_of_both.Goals as goal

pub returns-then-word-ne0 : goal.returns-then-word-ne0
returns-then-word-ne0 c =
    let a = c.word.result in
    let b = c.word-in-loop-k.result in
    let some : 0 < bit_and a b = omega (arith, c.if-word-ne0.true) in
    let small : bit_and a b < 2 ^ 64 =
    and_lt 64 a b c.word.type_inv c.word-in-loop-k.type_inv in
    found_in_word c.args.left.now c.args.right.now c.loop-k.k a b c.word.ensures
    c.word-in-loop-k.ensures (length c.args.left.now) some small refl

pub loop-k-preserved : goal.loop-k-preserved
loop-k-preserved c = (
  c.loop-k.invariant.0,
  none_more c.args.left.now c.args.right.now c.loop-k.k c.word.result c.word-in-loop-k.result
      c.word.ensures c.word-in-loop-k.ensures c.if-word-ne0.false c.loop-k.invariant.1,
)
