use Rattle.std.proofs.Common.{sym, ap, ◌∙◌, arith, subst, refl}
use Rattle.std.specs.Prelude.{IsSome}
use Rattle.vortex_errors.proofs.Answering.{AnswersUnlessMemory-weaker}
use Rattle.vortex_types.specs.TypeOf.{type_of}
use Rattle.vortex_interface.specs.Eval.{tree_type}
use Rattle.vortex_rewriting.specs.Contexts.{IsMade}
use Rattle.vortex_rewriting.specs.NullTests.{within, within_operands}
use Rattle.vortex_rewriting.proofs.BooleanNodes.{two_operands, is_operated}
use Rattle.vortex_rewriting.proofs.Made.{made_as}
use Rattle.vortex_rewriting.proofs.NullTestNodes.{boolean_node, within_node}
use Rattle.vortex_rewriting.proofs.null_tests.within.Goals as goal

pub child-requires : goal.child-requires
child-requires g c =
    let m = g.C.ScalarFnVTable.meaning in
    let t = (g.T.ReduceTree.seen c.args.node.now).tree in
    let op = c.in-Some.operator in
    let which = boolean_node m t op (sym c.boolean_called.ensures ∙ c.in-Some.is) in
    let two = two_operands m t op (type_of c.node_dtype-typed.result.now) which.0
    c.node_dtype-typed.ensures in
    omega (arith, two)

pub child-requires-2 : goal.child-requires-2
child-requires-2 g c =
    let m = g.C.ScalarFnVTable.meaning in
    let t = (g.T.ReduceTree.seen c.args.node.now).tree in
    let op = c.in-Some.operator in
    let which = boolean_node m t op (sym c.boolean_called.ensures ∙ c.in-Some.is) in
    let two = two_operands m t op (type_of c.node_dtype-typed.result.now) which.0
    c.node_dtype-typed.ensures in
    omega (arith, two)

pub within_operands-requires-clause-typed : goal.within_operands-requires-clause-typed
within_operands-requires-clause-typed g c =
    let m = g.C.ScalarFnVTable.meaning in
    let t = (g.T.ReduceTree.seen c.args.node.now).tree in
    let op = c.in-Some.operator in
    let k = type_of c.node_dtype-typed.result.now in
    let which = boolean_node m t op (sym c.boolean_called.ensures ∙ c.in-Some.is) in
    let x = (g.T.ReduceTree.seen c.in_ok-left.left).tree in
    let y = (g.T.ReduceTree.seen c.in_ok-right.right).tree in
    let is = is_operated m t op x y k which.0 c.node_dtype-typed.ensures c.in_ok-left.ensures.answer.0
    c.in_ok-right.ensures.answer.0 in
    subst (λ o. IsSome o) (sym (sym (ap (tree_type m) is) ∙ c.node_dtype-typed.ensures)) refl

pub returns : goal.returns
returns g c =
    let m = g.C.ScalarFnVTable.meaning in
    let seen = g.T.ReduceTree.seen in
    let node = seen c.args.node.now in
    let left = seen c.in_ok-left.left in
    let x = left.tree in
    let y = (seen c.in_ok-right.right).tree in
    let op = c.in-Some.operator in
    let test = c.args.test in
    let k = type_of c.node_dtype-typed.result.now in
    let which = boolean_node m node.tree op (sym c.boolean_called.ensures ∙ c.in-Some.is) in
    let is = is_operated m node.tree op x y k which.0 c.node_dtype-typed.ensures
    c.in_ok-left.ensures.answer.0 c.in_ok-right.ensures.answer.0 in
    let made = within_operands m test op x y in
    AnswersUnlessMemory-weaker c.within_operands.result (IsMade left seen made)
    (IsMade node seen (within m test node.tree))
    (made_as seen node left c.in_ok-left.ensures.answer.1 made (within m test node.tree)
    (within_node m test op node.tree x y which.1 is)) c.within_operands.ensures
