use Rattle.std.proofs.Common.{add-one, refl}
use Rattle.vortex_program.proofs.Optimized.{optimized_more}
use Rattle.vortex_program.proofs.program.optimized_answers.Goals as goal

pub loop-answer-preserved : goal.loop-answer-preserved
loop-answer-preserved c =
    rw c.in_ok-push.ensures.items
    (optimized_more c.args.written.now c.loop-answer.answers.items c.loop-answer.answer-index _
    c.answer-item.result _ (add-one c.loop-answer.answer-index) c.loop-answer-test.true
    c.answer-item.is c.loop-answer.invariant
    (record { tree = c.in_ok-tree.ensures; kind = refl }))
