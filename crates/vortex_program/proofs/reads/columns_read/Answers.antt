use Rattle.std.proofs.Common.{add-one}
use Rattle.vortex_program.proofs.ReadColumns.{more_read, all_read}
use Rattle.vortex_program.proofs.reads.columns_read.Goals as goal

pub loop-answer-preserved : goal.loop-answer-preserved
loop-answer-preserved c =
    more_read c.args.answers.now c.loop-answer.answer-index _ c.args.count c.loop-answer.read.items
    c.mark_tree.new.read.items c.answer-item.result (add-one c.loop-answer.answer-index)
    c.loop-answer-test.true c.answer-item.is c.loop-answer.invariant c.in_ok-mark_tree.ensures

pub returns : goal.returns
returns c =
    all_read c.args.answers.now c.loop-answer.answer-index c.args.count c.loop-answer.read.items
    c.loop-answer-test.false c.loop-answer.invariant
