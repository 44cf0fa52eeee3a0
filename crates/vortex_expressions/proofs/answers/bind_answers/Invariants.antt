use Rattle.std.proofs.Common.{map}
use Rattle.vortex_types.specs.TypeOf.{struct_fields}
use Rattle.vortex_expressions.specs.Answers.{answer_in}
use Rattle.vortex_expressions.proofs.Listing.{SoFar}
use Rattle.vortex_expressions.proofs.answers.bind_answers.Given as goal

abbrev pub invariant-loop-answer : goal.invariant-loop-answer
invariant-loop-answer l =
    SoFar (struct_fields l.scope) l.kinds l.list l.answer-index (map answer_in l.answers.items)
