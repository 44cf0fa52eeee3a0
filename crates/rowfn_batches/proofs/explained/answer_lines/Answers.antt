use Rattle.std.proofs.Common.{string_bytes, add-one, subst, ℕ, arith, length, ◌≡◌}
use Rattle.rowfn_batches.specs.Explaining.{AreExplained, none_yet, one_more}
use Rattle.rowfn_batches.proofs.explained.answer_lines.Goals as goal

pub loop-k-init : goal.loop-k-init
loop-k-init c = none_yet (string_bytes c.new-out.result) (cc)

pub loop-k-preserved : goal.loop-k-preserved
loop-k-preserved c =
    rw add-one
    (one_more c.loop-k.k c.index-written-k.result (string_bytes c.loop-k.out)
    (string_bytes c.push_answer.new.out) c.loop-k.invariant c.loop-k-test.true
    c.index-written-k.is (rw c.answer_at.ensures at c.in_ok-push_answer.ensures))

pub returns : goal.returns
returns c =
    let all : c.loop-k.k ≡ length c.args.written.now = omega arith in
    subst (λ (n : ℕ). AreExplained c.args.written.now c.args.optimized.now n
    (string_bytes c.loop-k.out)) all c.loop-k.invariant
