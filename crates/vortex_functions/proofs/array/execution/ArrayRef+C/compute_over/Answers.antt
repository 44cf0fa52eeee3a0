use Rattle.std.proofs.Common.{◌≡◌, sym, ap, ◌∙◌, subst, Some}
use Rattle.std.specs.Prelude.{[]}
use Rattle.std.proofs.lemmas.Result.{err_from_is_err_and}
use Rattle.vortex_errors.specs.Answers.{UnlessMemory}
use Rattle.vortex_types.specs.TypeOf.{type_of}
use Rattle.vortex_interface.specs.Eval.{tree_type, HasTreeRows, IsFirstFault}
use Rattle.vortex_functions.specs.FunctionOf.{function_of}
use Rattle.vortex_functions.specs.Arrays.{tree_in, rows_in}
use Rattle.vortex_functions.specs.ArrayLeaves.{leaf_column}
use Rattle.vortex_functions.specs.Nodes.{call_of}
use Rattle.vortex_functions.proofs.NodeKinds.{IsArrayNode}
use Rattle.vortex_functions.proofs.ArrayChildren.{seen, made_beneath}
use Rattle.vortex_functions.proofs.ArrayColumns.{column_rows}
use Rattle.vortex_functions.proofs.array.execution.ArrayRef+C.compute_over.Goals as goal

pub call_rows-requires-clause-typed : goal.call_rows-requires-clause-typed
call_rows-requires-clause-typed g c =
    let m = g.C.ScalarFnVTable.meaning in
    let node =
    subst (IsArrayNode m g.C.ScalarFnVTable.rules c.self.inside.context) c.in-Call.is
    c.self.invariant.0 in
    subst (λ p. tree_type m (call_of tree_in p) ≡ Some (type_of p.dtype)) (sym c.deref.ensures)
    node.0

pub call_rows-requires-clause-inputs : goal.call_rows-requires-clause-inputs
call_rows-requires-clause-inputs g c =
    let n = c.self.inside.context in
    let parts = c.deref.result.now in
    let is =
    seen c.args.self.now c.self.inside _ c.self.view_is c.in-Call.is
    ∙ ap (λ p. (call_of tree_in p, n)) (sym c.deref.ensures) in (
      [],
      made_beneath g.C.ScalarFnVTable.meaning c.args.self.now (function_of parts.function)
          parts.children.items n c.args.inputs.items is c.requires,
    )

pub returns-in_err-call_rows-in-Call : goal.returns-in_err-call_rows-in-Call
returns-in_err-call_rows-in-Call g c =
    let m = g.C.ScalarFnVTable.meaning in
    let n = c.self.inside.context in
    let parts = c.deref.result.now in
    let is =
    seen c.args.self.now c.self.inside _ c.self.view_is c.in-Call.is
    ∙ ap (λ p. (call_of tree_in p, n)) (sym c.deref.ensures) in
    let made = made_beneath m c.args.self.now (function_of parts.function) parts.children.items n
    c.args.inputs.items is c.requires in
    let p = err_from_is_err_and c.from_residual.result c.from_residual.ensures.1 in
    rw (p.1, p.2)
    (subst (λ a. UnlessMemory (IsFirstFault m [] (rows_in a) (tree_in a))
    c.in_err-call_rows-in-Call.field-0.0) (sym is) (c.in_err-call_rows-in-Call.ensures [] made))

pub returns : goal.returns
returns g c =
    let m = g.C.ScalarFnVTable.meaning in
    let n = c.self.inside.context in
    let parts = c.deref.result.now in
    let is =
    seen c.args.self.now c.self.inside _ c.self.view_is c.in-Call.is
    ∙ ap (λ p. (call_of tree_in p, n)) (sym c.deref.ensures) in
    let made = made_beneath m c.args.self.now (function_of parts.function) parts.children.items n
    c.args.inputs.items is c.requires in
    subst (λ a. HasTreeRows m [] (rows_in a) (tree_in a) c.in_ok-call_rows-in-Call.field-0) (sym is)
    (c.in_ok-call_rows-in-Call.ensures [] made)

pub returns-in-Leaf : goal.returns-in-Leaf
returns-in-Leaf g c =
    let m = g.C.ScalarFnVTable.meaning in
    let n = c.self.inside.context in
    let is = seen c.args.self.now c.self.inside _ c.self.view_is c.in-Leaf.is in
    let node = subst (IsArrayNode m g.C.ScalarFnVTable.rules n) c.in-Leaf.is c.self.invariant.0 in
    rw c.column.ensures
    (column_rows m c.args.self.now (leaf_column c.in-Leaf.leaf) n is node.0 node.1)
