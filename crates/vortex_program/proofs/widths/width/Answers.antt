use Rattle.std.proofs.Common.{add-one}
use Rattle.vortex_program.proofs.WideTrees.{more_wide, all_wide}
use Rattle.vortex_program.proofs.widths.width.Goals as goal

pub loop-answer-preserved : goal.loop-answer-preserved
loop-answer-preserved c =
    more_wide c.args.answers.now c.loop-answer.answer-index _ c.answer-item.result
    c.loop-answer.most c.in_ok-one.one c.max-most.result (add-one c.loop-answer.answer-index)
    c.loop-answer-test.true c.answer-item.is c.loop-answer.invariant c.in_ok-one.ensures
    c.max-most.ensures

pub returns : goal.returns
returns c =
    all_wide c.args.answers.now c.loop-answer.answer-index c.loop-answer.most
    c.loop-answer-test.false c.loop-answer.invariant
