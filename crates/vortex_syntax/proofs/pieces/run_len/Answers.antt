use Rattle.std.proofs.Common.{length, arith, rules}
use Rattle.vortex_syntax.proofs.Runs.{ends_at}
use Rattle.vortex_syntax.proofs.pieces.run_len.Goals as goal

pub returns-then-not-is_in-clause-front : goal.returns-then-not-is_in-clause-front
returns-then-not-is_in-clause-front c =
    (ends_at c.args.run c.args.text.now c.loop-i.i (omega arith) c.loop-i.invariant
    (λ lt. search rules)).front

pub returns-then-not-is_in-clause-behind : goal.returns-then-not-is_in-clause-behind
returns-then-not-is_in-clause-behind c =
    (ends_at c.args.run c.args.text.now c.loop-i.i (omega arith) c.loop-i.invariant
    (λ lt. search rules)).behind

pub returns-clause-front : goal.returns-clause-front
returns-clause-front c =
    (ends_at c.args.run c.args.text.now (length c.args.text.now) (omega arith)
    (λ k lt. c.loop-i.invariant k (omega (arith, lt))) (λ lt. absurd (omega (arith, lt)))).front

pub returns-clause-behind : goal.returns-clause-behind
returns-clause-behind c =
    (ends_at c.args.run c.args.text.now (length c.args.text.now) (omega arith)
    (λ k lt. c.loop-i.invariant k (omega (arith, lt)))
    (λ lt. absurd (omega (arith, lt)))).behind
