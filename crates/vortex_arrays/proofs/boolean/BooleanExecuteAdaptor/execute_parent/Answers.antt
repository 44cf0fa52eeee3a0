use Rattle.std.proofs.Common.{◌≡◌, true, sym, ◌∙◌}
use Rattle.vortex_operators.specs.Operators.{is_boolean}
use Rattle.vortex_kernels.specs.Boolean.{AnswersBoolean}
use Rattle.vortex_arrays.specs.Encoded.{InOrder, boolean_answers}
use Rattle.vortex_arrays.proofs.Answering.{gives_answers}
use Rattle.vortex_arrays.proofs.BooleanSides.{boolean_in_order, answers_constant, answers_asked}
use Rattle.vortex_arrays.proofs.boolean.BooleanExecuteAdaptor.execute_parent.Goals as goal

pub returns-in_ok-beside_truth-in-Some : goal.returns-in_ok-beside_truth-in-Some
returns-in_ok-beside_truth-in-Some g c =
    let kernel = g.V.BooleanKernel.answers_boolean c.args.array.now in
    let column = g.V.EncodedColumn.column c.args.array.now in
    let other = c.args.other.now in
    let op = c.args.op in
    let k = c.args.child_idx in
    let is : is_boolean op ≡ true = sym c.is_boolean.ensures ∙ cc in
    let answer = c.in_ok-beside_truth-in-Some in (
      answers_constant kernel op other k is c.if-child_idx-gt1.false c.in-Some.ensures.0,
      boolean_in_order k op column other answer.field-0 c.requires.lengths
          record { operator = is; bools = c.requires.bools is; rows = answer.ensures },
    )

pub returns-in-None : goal.returns-in-None
returns-in-None g c =
    let kernel = g.V.BooleanKernel.answers_boolean c.args.array.now in
    let column = g.V.EncodedColumn.column c.args.array.now in
    let other = c.args.other.now in
    let op = c.args.op in
    let k = c.args.child_idx in
    let is : is_boolean op ≡ true = sym c.is_boolean.ensures ∙ cc in
    gives_answers (kernel other op) (boolean_answers kernel op other k)
    (AnswersBoolean op column other) (InOrder k (AnswersBoolean op) column other) c.boolean.result
    (answers_asked kernel op other k is c.if-child_idx-gt1.false c.in-None.ensures)
    (λ d h. boolean_in_order k op column other d c.requires.lengths h) c.boolean.ensures
