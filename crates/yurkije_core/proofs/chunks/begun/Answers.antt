use Rattle.std.proofs.Common.{add-one, rules}
use Rattle.vortex_types.specs.TypeOf.{type_of}
use Rattle.vortex_interface.specs.Eval.{HasTreeRows}
use Rattle.vortex_expressions.specs.Items.{meaning}
use Rattle.vortex_program.proofs.Answered.{all_more}
use Rattle.yurkije_core.proofs.PutRows.{none_run}
use Rattle.yurkije_core.proofs.chunks.begun.Goals as goal

pub loop-answer-preserved : goal.loop-answer-preserved
loop-answer-preserved c = λ cs.
    let k = c.loop-answer.answer-index in
    let answer = c.answer-item.result in
    let joined = c.in-Some.joined in
    rw c.in_ok-push-in-Some.ensures.items
    (all_more (HasTreeRows meaning cs 0) (λ a. a.tree) c.args.answers.now
    c.loop-answer.begun.items k _ answer joined (add-one k) c.loop-answer-test.true c.answer-item.is
    (c.loop-answer.invariant cs)
    (none_run cs answer.tree (type_of c.dtype.result.now) joined c.dtype.ensures.dtype
    (search rules)))
