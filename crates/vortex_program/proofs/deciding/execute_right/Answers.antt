use Rattle.std.proofs.Common.{◌∙◌, ap, map, rules}
use Rattle.std.specs.Cow.{cow_value}
use Rattle.vortex_errors.proofs.Answering.{UnlessMemory-weaker}
use Rattle.vortex_types.specs.TypeOf.{type_of}
use Rattle.vortex_interface.specs.Eval.{HasTreeRows, IsFirstFault}
use Rattle.vortex_standard.specs.Standard.{standard_meaning}
use Rattle.vortex_program.proofs.Answered.{answers_refusal}
use Rattle.vortex_program.proofs.Decided.{joins_right, right_fault, right_fits, two_there}
use Rattle.vortex_program.proofs.Decided.{both_counted, both_accepted, both_answer}
use Rattle.vortex_program.proofs.deciding.execute_right.Goals as goal

pub child-requires : goal.child-requires
child-requires c =
    let q = c.requires.left in
    two_there c.args.joined.operator c.args.joined.node.now q.0 q.1 q.2

pub execute_fitting-requires : goal.execute_fitting-requires
execute_fitting-requires c =
    let q = c.requires.left in
    let node = c.args.joined.node.now in
    let op = c.args.joined.operator in
    let j = joins_right op node q.0 q.1 c.child.result.now q.2 c.child.ensures.tree in
    right_fits c.args.columns.now c.args.row_count op node q.0 c.child.result.now j c.requires.fit

pub returns-in_err-right : goal.returns-in_err-right
returns-in_err-right c =
    let m = standard_meaning in
    let cs = c.args.columns.now in
    let n = c.args.row_count in
    let q = c.requires.left in
    let node = c.args.joined.node.now in
    let op = c.args.joined.operator in
    let right = c.child.result.now in
    let j = joins_right op node q.0 q.1 right q.2 c.child.ensures.tree in
    answers_refusal (HasTreeRows m cs n node) (IsFirstFault m cs n node)
    c.from_residual.result c.in_err-right.field-0.0 c.from_residual.ensures.1
    (UnlessMemory-weaker (IsFirstFault m cs n right) (IsFirstFault m cs n node)
    (λ e h. right_fault m cs n op node q.0 right j (cow_value c.args.left) q.3 e h)
    c.in_err-right.field-0.0 c.in_err-right.ensures.answer)

pub new-args-requires : goal.new-args-requires
new-args-requires c =
    let q = c.requires.left in
    let node = c.args.joined.node.now in
    let op = c.args.joined.operator in
    let right = c.child.result.now in
    let j = joins_right op node q.0 q.1 right q.2 c.child.ensures.tree in
    both_counted standard_meaning c.args.columns.now c.args.row_count op node q.0 right j
    (cow_value c.args.left) q.3 (cow_value c.in_ok-right.right) _ c.in_ok-right.ensures.answer
    (ap (map cow_value) c.in_ok-inputs.ensures)

pub execute-requires-clause-arity : goal.execute-requires-clause-arity
execute-requires-clause-arity c =
    let q = c.requires.left in
    let node = c.args.joined.node.now in
    let op = c.args.joined.operator in
    let right = c.child.result.now in
    let j = joins_right op node q.0 q.1 right q.2 c.child.ensures.tree in
    (both_accepted standard_meaning c.args.columns.now c.args.row_count op node q.0 right j
    (cow_value c.args.left) q.3 (cow_value c.in_ok-right.right) _ c.in_ok-right.ensures.answer
    (c.new-args.ensures.columns ∙ ap (map cow_value) c.in_ok-inputs.ensures)
    (type_of c.dtype-typed.result.now) c.dtype-typed.ensures.dtype).0

pub execute-requires-clause-accepted : goal.execute-requires-clause-accepted
execute-requires-clause-accepted c =
    let q = c.requires.left in
    let node = c.args.joined.node.now in
    let op = c.args.joined.operator in
    let right = c.child.result.now in
    let j = joins_right op node q.0 q.1 right q.2 c.child.ensures.tree in
    let here = both_accepted standard_meaning c.args.columns.now c.args.row_count op node q.0 right j
    (cow_value c.args.left) q.3 (cow_value c.in_ok-right.right) _ c.in_ok-right.ensures.answer
    (c.new-args.ensures.columns ∙ ap (map cow_value) c.in_ok-inputs.ensures)
    (type_of c.dtype-typed.result.now) c.dtype-typed.ensures.dtype in
    rw here.1 (search rules)

pub returns : goal.returns
returns c =
    let q = c.requires.left in
    let node = c.args.joined.node.now in
    let op = c.args.joined.operator in
    let right = c.child.result.now in
    let j = joins_right op node q.0 q.1 right q.2 c.child.ensures.tree in
    both_answer standard_meaning c.args.columns.now c.args.row_count op node q.0 right j
    (cow_value c.args.left) q.3 (cow_value c.in_ok-right.right) _ c.in_ok-right.ensures.answer
    (c.new-args.ensures.columns ∙ ap (map cow_value) c.in_ok-inputs.ensures)
    (type_of c.dtype-typed.result.now) c.execute.result c.dtype-typed.ensures.dtype
    (rw (← c.new-args.ensures.row_count) c.execute.ensures)
