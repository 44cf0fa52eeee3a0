use Rattle.std.proofs.Common.{◌≡◌, sym, ap, ◌∙◌, subst, map, Some}
use Rattle.std.proofs.lemmas.Result.{err_from_is_err_and}
use Rattle.vortex_errors.specs.Answers.{UnlessMemory}
use Rattle.vortex_types.specs.TypeOf.{type_of}
use Rattle.vortex_interface.specs.Eval.{tree_type, HasTreeRows, IsFirstFault}
use Rattle.vortex_functions.specs.FunctionOf.{function_of}
use Rattle.vortex_functions.specs.Executing.{Fits, HasRows, AnswersTree}
use Rattle.vortex_functions.proofs.NodeKinds.{IsExpressionNode, expression_call}
use Rattle.vortex_functions.proofs.NodeKinds.{expression_node}
use Rattle.vortex_functions.proofs.Inputs.{made_of_items}
use Rattle.vortex_functions.proofs.expression.execution.BoundExpression+C.compute_over.Goals as goal

pub call_rows-requires-clause-typed : goal.call_rows-requires-clause-typed
call_rows-requires-clause-typed g c =
    let m = g.C.ScalarFnVTable.meaning in
    let node =
    subst (IsExpressionNode m g.C.ScalarFnVTable.rules) c.in-Call.is c.self.invariant.0 in
    subst (λ p. tree_type m (expression_call p) ≡ Some (type_of p.dtype)) (sym c.deref.ensures)
    node.0

pub call_rows-requires-clause-inputs : goal.call_rows-requires-clause-inputs
call_rows-requires-clause-inputs g c =
    let cs = c.args.columns.now in
    let parts = c.deref.result.now in
    let is =
    sym c.self.view_is ∙ ap expression_node c.in-Call.is
    ∙ ap expression_call (sym c.deref.ensures) in (
      cs,
      made_of_items (HasRows g.C.ScalarFnVTable.meaning cs c.args.row_count) c.args.self.now
          (function_of parts.function) (map (λ t. t) parts.children.items) c.args.inputs.items is
          c.requires.inputs,
    )

pub returns-in_err-call_rows-in-Call : goal.returns-in_err-call_rows-in-Call
returns-in_err-call_rows-in-Call g c =
    let m = g.C.ScalarFnVTable.meaning in
    let cs = c.args.columns.now in
    let n = c.args.row_count in
    let parts = c.deref.result.now in
    let is =
    sym c.self.view_is ∙ ap expression_node c.in-Call.is
    ∙ ap expression_call (sym c.deref.ensures) in
    let made = made_of_items (HasRows m cs n) c.args.self.now (function_of parts.function)
    (map (λ t. t) parts.children.items) c.args.inputs.items is c.requires.inputs in
    let p = err_from_is_err_and c.from_residual.result c.from_residual.ensures.1 in
    rw (p.1, p.2)
    (subst (λ t. UnlessMemory (IsFirstFault m cs n t) c.in_err-call_rows-in-Call.field-0.0) (sym is)
    (c.in_err-call_rows-in-Call.ensures cs made))

pub returns : goal.returns
returns g c =
    let m = g.C.ScalarFnVTable.meaning in
    let cs = c.args.columns.now in
    let n = c.args.row_count in
    let parts = c.deref.result.now in
    let is =
    sym c.self.view_is ∙ ap expression_node c.in-Call.is
    ∙ ap expression_call (sym c.deref.ensures) in
    let made = made_of_items (HasRows m cs n) c.args.self.now (function_of parts.function)
    (map (λ t. t) parts.children.items) c.args.inputs.items is c.requires.inputs in
    subst (λ t. HasTreeRows m cs n t c.in_ok-call_rows-in-Call.field-0) (sym is)
    (c.in_ok-call_rows-in-Call.ensures cs made)

pub rows-requires : goal.rows-requires
rows-requires g c =
    let is = sym c.self.view_is ∙ ap expression_node c.in-Leaf.is in
    subst (Fits c.args.columns.now c.args.row_count) is c.requires.fit

pub returns-in-Leaf : goal.returns-in-Leaf
returns-in-Leaf g c =
    let is = sym c.self.view_is ∙ ap expression_node c.in-Leaf.is in
    subst (λ t. AnswersTree g.C.ScalarFnVTable.meaning c.args.columns.now c.args.row_count t
    c.rows.result) (sym is) c.rows.ensures.answer
