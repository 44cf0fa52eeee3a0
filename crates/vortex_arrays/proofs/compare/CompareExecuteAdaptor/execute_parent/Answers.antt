use Rattle.std.proofs.Common.{◌≡◌, true, sym, ap}
use Rattle.std.specs.Prelude.{is_some}
use Rattle.vortex_columns.specs.ColumnView.{ColumnView}
use Rattle.vortex_operators.specs.declared.operators.CompareOperator.{CompareOperator}
use Rattle.vortex_kernels.specs.Comparison.{HasComparisonRows}
use Rattle.vortex_arrays.specs.Encoded.{are_accepted, is_settled_beside}
use Rattle.vortex_arrays.proofs.Answering.{gives_some, gives_none}
use Rattle.vortex_arrays.proofs.ComparedSides.{settled_answers, asked_answers}
use Rattle.vortex_arrays.proofs.compare.CompareExecuteAdaptor.execute_parent.Goals as goal

pub returns-in-Some-2 : goal.returns-in-Some-2
returns-in-Some-2 g c =
    let column = g.V.EncodedColumn.column c.args.array.now in
    let other = c.args.other.now in
    let op = c.args.op in
    let is = sym c.in-Some.ensures.table in
    let accepted : are_accepted column other ≡ true = c.requires.accepted (ap is_some is) in
    let answer =
    gives_some (is_settled_beside other)
    (λ (d : ColumnView). (o : CompareOperator) → HasComparisonRows o column other d)
    c.in_ok-column.field-0 c.in-Some-2.column c.in_ok-column.ensures c.in-Some-2.is in
    settled_answers (g.V.CompareKernel.answers_compare c.args.array.now) op c.in-Some.operator
    c.args.child_idx column other c.in-Some-2.column is c.if-child_idx-gt1.false answer.0
    c.requires.lengths accepted answer.1

pub returns : goal.returns
returns g c =
    let column = g.V.EncodedColumn.column c.args.array.now in
    let other = c.args.other.now in
    let op = c.args.op in
    let is = sym c.in-Some.ensures.table in
    let accepted : are_accepted column other ≡ true = c.requires.accepted (ap is_some is) in
    let left =
    gives_none (is_settled_beside other)
    (λ (d : ColumnView). (o : CompareOperator) → HasComparisonRows o column other d)
    c.in_ok-column.field-0 c.in_ok-column.ensures c.in_default-2.is in
    asked_answers (g.V.CompareKernel.answers_compare c.args.array.now) op c.in-Some.operator
    c.args.child_idx column other c.compare.result is c.if-child_idx-gt1.false left
    c.requires.lengths accepted (rw c.asked.ensures at c.compare.ensures)
