use Rattle.std.proofs.Common.{List, add-one, arith, map, subst, take_all}
use Rattle.std.specs.Prelude.{All}
use Rattle.vortex_interface.specs.Execution.{LeavesFit}
use Rattle.vortex_program.specs.declared.answer.Answer.{Answer}
use Rattle.vortex_program.proofs.Answered.{placed_more}
use Rattle.yurkije_columns.specs.Batches.{batch_column}
use Rattle.yurkije_core.proofs.lent.have_leaves.Goals as goal

pub loop-answer-preserved : goal.loop-answer-preserved
loop-answer-preserved c = λ n.
    let k = c.loop-answer.answer-index in
    placed_more (LeavesFit (map (batch_column n) c.args.columns.now)) (λ a. a.tree)
    c.args.answers.now k _ c.answer-item.result (add-one k) c.loop-answer-test.true
    c.answer-item.is (c.loop-answer.invariant n)
    (c.leaves_fit.ensures c.if-not-leaves_fit.false n)

pub returns : goal.returns
returns c = λ yes n.
    subst
    (λ (xs : List Answer).
    All (LeavesFit (map (batch_column n) c.args.columns.now)) (map (λ a. a.tree) xs))
    (take_all c.loop-answer.answer-index c.args.answers.now
    (omega (arith, c.loop-answer-test.false)))
    (c.loop-answer.invariant n)
