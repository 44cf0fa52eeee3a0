use Rattle.std.proofs.Common.{sym, arith}
use Rattle.vortex_syntax.proofs.Quotes.{next_other, next_twice, at_last}
use Rattle.vortex_syntax.proofs.pieces.closing_quote.Goals as goal
use Rattle.vortex_syntax.proofs.pieces.closing_quote.Goals.{else-i-text-via-then-i-text+else-text-i-2}
use Rattle.vortex_syntax.proofs.pieces.closing_quote.Goals.{else-i-text-via-else-i-text}

pub loop-i-preserved-then-text-i : goal.loop-i-preserved-then-text-i
loop-i-preserved-then-text-i c =
    next_other c.args.quote c.args.text.now c.loop-i.i c.loop-i-test.true c.if-text-i.true
    c.loop-i.invariant

pub loop-i-preserved : goal.loop-i-preserved
loop-i-preserved c =
    next_twice c.args.quote c.args.text.now c.loop-i.i c.if-i-text.true c.if-text-i.false
    c.if-text-i-2.true c.loop-i.invariant

pub returns-else-i-text-clause-closed : goal.returns-else-i-text-clause-closed
returns-else-i-text-clause-closed c =
    sym (at_last c.args.quote c.args.text.now c.loop-i.i c.loop-i-test.true c.if-text-i.false
    (λ lt. elim c.else-i-text.branch [
      | else-i-text-via-then-i-text+else-text-i-2 w ↦ w.if-text-i-2.false
      | else-i-text-via-else-i-text w ↦ absurd (omega arith)
    ]) c.loop-i.invariant)
