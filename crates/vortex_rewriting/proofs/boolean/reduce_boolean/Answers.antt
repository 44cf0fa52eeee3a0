use Rattle.std.proofs.Common.{◌≡◌, arith}
use Rattle.vortex_types.specs.TypeOf.{type_of}
use Rattle.vortex_interface.specs.ComparisonTrees.{operated}
use Rattle.vortex_rewriting.proofs.BooleanNodes.{two_operands, is_operated, casts_left, casts_right}
use Rattle.vortex_rewriting.proofs.BooleanNodes.{reduced}
use Rattle.vortex_rewriting.proofs.boolean.reduce_boolean.Given.{Over}
use Rattle.vortex_rewriting.proofs.boolean.reduce_boolean.Goals.{In_ok-right}
use Rattle.vortex_rewriting.proofs.boolean.reduce_boolean.Goals as goal

pub child-requires : goal.child-requires
child-requires g c =
    let two =
    two_operands g.C.ScalarFnVTable.meaning (g.T.ReduceTree.seen c.args.node.now).tree c.args.operator
    (type_of c.node_dtype.result.now) c.requires.call c.node_dtype.ensures in
    omega arith

pub child-requires-2 : goal.child-requires-2
child-requires-2 g c =
    let two =
    two_operands g.C.ScalarFnVTable.meaning (g.T.ReduceTree.seen c.args.node.now).tree c.args.operator
    (type_of c.node_dtype.result.now) c.requires.call c.node_dtype.ensures in
    omega arith

-- the node, from its operands
operands : (g : Over) (c : In_ok-right g)
    → (g.T.ReduceTree.seen c.args.node.now).tree
    ≡ operated c.args.operator (g.T.ReduceTree.seen c.in_ok-left.left).tree
    (g.T.ReduceTree.seen c.in_ok-right.right).tree
operands g c =
    let seen = g.T.ReduceTree.seen in
    is_operated g.C.ScalarFnVTable.meaning (seen c.args.node.now).tree c.args.operator
    (seen c.in_ok-left.left).tree (seen c.in_ok-right.right).tree
    (type_of c.node_dtype.result.now) c.requires.call c.node_dtype.ensures
    c.in_ok-left.ensures.answer.0 c.in_ok-right.ensures.answer.0

pub of_constants-requires-clause-casts_left : goal.of_constants-requires-clause-casts_left
of_constants-requires-clause-casts_left g c =
    casts_left g.C.ScalarFnVTable.meaning c.requires.boolean
    (operands g (goal.at.of_constants-requires-clause-casts_left g c).In_ok-right)
    c.node_dtype.ensures

pub of_constants-requires-clause-casts_right : goal.of_constants-requires-clause-casts_right
of_constants-requires-clause-casts_right g c =
    casts_right g.C.ScalarFnVTable.meaning c.requires.boolean
    (operands g (goal.at.of_constants-requires-clause-casts_right g c).In_ok-right)
    c.node_dtype.ensures

pub returns : goal.returns
returns g c =
    let seen = g.T.ReduceTree.seen in
    reduced g.C.ScalarFnVTable.meaning seen (seen c.args.node.now) (seen c.in_ok-left.left)
    c.of_constants.result c.in_ok-left.ensures.answer.1 c.requires.boolean
    (operands g (goal.at.returns g c).In_ok-right) c.node_dtype.ensures
    c.nullability-nullability.ensures c.of_constants.ensures
