use Rattle.std.proofs.Common.{add-one}
use Rattle.vortex_interface.specs.Bound.{IsBound}
use Rattle.vortex_program.proofs.Answered.{placed_more}
use Rattle.yurkije_core.proofs.chunks.learn_bound.Goals as goal

pub loop-answer-preserved : goal.loop-answer-preserved
loop-answer-preserved c =
    let k = c.loop-answer.answer-index in
    placed_more IsBound (λ a. a.tree) c.args.answers.now k _ c.answer-item.result (add-one k)
    c.loop-answer-test.true c.answer-item.is c.loop-answer.invariant c.dtype-typed.ensures.typed
