use Rattle.std.proofs.Common.{sym, arith}
use Rattle.vortex_syntax.proofs.Comments.{inner, to_inner, to_outer, to_next, no_end}
use Rattle.vortex_syntax.proofs.gaps.comment_len.Goals as goal

pub loop-i-preserved-then-are_bytes : goal.loop-i-preserved-then-are_bytes
loop-i-preserved-then-are_bytes c =
    to_inner c.args.text.now c.loop-i.depth c.loop-i.i c.loop-i-test.true c.loop-i.invariant
    (sym c.if-are_bytes.ensures)

pub loop-i-preserved-then-are_bytes-2 : goal.loop-i-preserved-then-are_bytes-2
loop-i-preserved-then-are_bytes-2 c =
    to_outer c.args.text.now c.loop-i.depth c.loop-i.i c.loop-i-test.true c.loop-i.invariant
    (sym c.if-are_bytes.ensures) (sym c.if-are_bytes-2.ensures)
    (inner c.loop-i.depth c.if-depth-eq0.false)

pub loop-i-preserved : goal.loop-i-preserved
loop-i-preserved c =
    to_next c.args.text.now c.loop-i.depth c.loop-i.i c.loop-i-test.true c.loop-i.invariant
    (sym c.if-are_bytes.ensures) (sym c.if-are_bytes-2.ensures)

pub returns-clause-behind : goal.returns-clause-behind
returns-clause-behind c =
    sym (no_end c.args.text.now c.loop-i.depth c.loop-i.i (omega (arith, c.loop-i-test.false))
    c.loop-i.invariant)
