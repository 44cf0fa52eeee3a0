use Rattle.std.proofs.Common.{subst}
use Rattle.vortex_expressions.proofs.Quoting.{SoFar, passed_over, taken}
use Rattle.vortex_expressions.proofs.quotes.unquoted.Goals as goal
use Rattle.vortex_expressions.proofs.quotes.unquoted.Goals.{then-is_doubled}
use Rattle.vortex_expressions.proofs.quotes.unquoted.Goals.{else-is_doubled+in_ok-push}

pub loop-byte-preserved : goal.loop-byte-preserved
loop-byte-preserved c =
    let q = c.args.quote in
    let xs = c.args.written.now in
    let i = c.loop-byte.byte-index in
    let out = c.loop-byte.text.items in
    elim c.if-is_doubled.branch [
      | then-is_doubled w ↦
          rw (w.text-is, w.is_doubled-is) (passed_over q xs i out c.loop-byte-test.true
          (subst (λ b. SoFar q xs out b i) w.if-is_doubled.true c.loop-byte.invariant))
      | else-is_doubled+in_ok-push w ↦
          rw (w.text-is, w.is_doubled-is, w.in_ok-push.ensures.items)
          (taken q xs i out c.loop-byte-test.true
          (subst (λ b. SoFar q xs out b i) w.if-is_doubled.false c.loop-byte.invariant))
    ]
