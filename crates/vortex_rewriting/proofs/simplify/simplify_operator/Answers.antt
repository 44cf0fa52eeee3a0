use Rattle.std.proofs.Common.{◌≡◌, sym, ◌∙◌, arith}
use Rattle.vortex_types.specs.TypeOf.{type_of}
use Rattle.vortex_interface.specs.ComparisonTrees.{operated}
use Rattle.vortex_rewriting.proofs.BooleanNodes.{two_operands, is_operated, casts_left, casts_right}
use Rattle.vortex_rewriting.proofs.Simplified.{simplified_boolean, simplified_comparison}
use Rattle.vortex_rewriting.proofs.simplify.simplify_operator.Given.{Over}
use Rattle.vortex_rewriting.proofs.simplify.simplify_operator.Goals.{In_ok-right}
use Rattle.vortex_rewriting.proofs.simplify.simplify_operator.Goals as goal

pub child-requires : goal.child-requires
child-requires g c =
    let two =
    two_operands g.C.ScalarFnVTable.meaning (g.T.ReduceTree.seen c.args.node.now).tree c.args.operator
    (type_of c.node_dtype.result.now) c.requires c.node_dtype.ensures in
    omega arith

pub child-requires-2 : goal.child-requires-2
child-requires-2 g c =
    let two =
    two_operands g.C.ScalarFnVTable.meaning (g.T.ReduceTree.seen c.args.node.now).tree c.args.operator
    (type_of c.node_dtype.result.now) c.requires c.node_dtype.ensures in
    omega arith

-- the node, from its operands
operands : (g : Over) (c : In_ok-right g)
    → (g.T.ReduceTree.seen c.args.node.now).tree
    ≡ operated c.args.operator ((g.T.ReduceTree.seen c.in_ok-left.left).tree)
    ((g.T.ReduceTree.seen c.in_ok-right.right).tree)
operands g c =
    let seen = g.T.ReduceTree.seen in
    is_operated g.C.ScalarFnVTable.meaning (seen c.args.node.now).tree c.args.operator
    (seen c.in_ok-left.left).tree (seen c.in_ok-right.right).tree
    (type_of c.node_dtype.result.now) c.requires c.node_dtype.ensures
    c.in_ok-left.ensures.answer.0 c.in_ok-right.ensures.answer.0

pub simplify_operands-requires-clause-casts_left : goal.simplify_operands-requires-clause-casts_left
simplify_operands-requires-clause-casts_left g c =
    casts_left g.C.ScalarFnVTable.meaning (sym c.is_boolean.ensures ∙ c.if-is_boolean.true)
    (operands g (goal.at.simplify_operands-requires-clause-casts_left g c).In_ok-right)
    c.node_dtype.ensures

pub simplify_operands-requires-clause-casts_right :
    goal.simplify_operands-requires-clause-casts_right
simplify_operands-requires-clause-casts_right g c =
    casts_right g.C.ScalarFnVTable.meaning (sym c.is_boolean.ensures ∙ c.if-is_boolean.true)
    (operands g (goal.at.simplify_operands-requires-clause-casts_right g c).In_ok-right)
    c.node_dtype.ensures

pub returns-then-is_boolean : goal.returns-then-is_boolean
returns-then-is_boolean g c =
    let seen = g.T.ReduceTree.seen in
    simplified_boolean g.C.ScalarFnVTable.meaning seen (seen c.args.node.now)
    (seen c.in_ok-left.left) c.in_ok-left.ensures.answer.1
    (operands g (goal.at.returns-then-is_boolean g c).In_ok-right) c.simplify_operands.result
    (sym c.is_boolean.ensures ∙ c.if-is_boolean.true) c.node_dtype.ensures
    c.nullability-nullability.ensures c.simplify_operands.ensures

pub returns-then-is_comparison : goal.returns-then-is_comparison
returns-then-is_comparison g c =
    let seen = g.T.ReduceTree.seen in
    simplified_comparison g.C.ScalarFnVTable.meaning seen (seen c.args.node.now)
    (seen c.in_ok-left.left) c.in_ok-left.ensures.answer.1
    (operands g (goal.at.returns-then-is_comparison g c).In_ok-right)
    c.simplify_comparison.result (sym c.is_comparison.ensures ∙ c.if-is_comparison.true)
    c.simplify_comparison.ensures
