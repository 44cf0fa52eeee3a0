use Rattle.vortex_types.specs.TypeOf.{struct_fields}
use Rattle.vortex_expressions.proofs.Finding.{handed_on}
use Rattle.vortex_expressions.proofs.Listing.{stops}
use Rattle.vortex_expressions.proofs.answers.bind_answers.Goals as goal

pub returns-in_err-bound : goal.returns-in_err-bound
returns-in_err-bound c =
    handed_on _ _ _ _ c.from_residual.ensures.1
    (stops (struct_fields c.args.scope.now) c.args.kinds.now c.args.list.now c.loop-answer.answer-index
    c.answer-item.result _ _ c.loop-answer-test.true c.answer-item.is c.loop-answer.invariant
    c.in_err-bound.ensures)
