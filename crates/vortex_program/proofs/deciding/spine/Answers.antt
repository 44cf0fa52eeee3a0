use Rattle.std.proofs.Common.{arith}
use Rattle.vortex_program.proofs.Decided.{spine_more, joins_left, left_smaller, two_there}
use Rattle.vortex_program.proofs.deciding.spine.Goals as goal

pub child-node-requires : goal.child-node-requires
child-node-requires c =
    let q = c.in-Some.ensures in
    let two = two_there c.in-Some.operator c.loop-operator.node.now q.0 q.1 q.2 in
    omega (arith, two)

pub loop-operator-preserved : goal.loop-operator-preserved
loop-operator-preserved c =
    let q = c.in-Some.ensures in
    let node = c.loop-operator.node.now in
    let child = c.child-node.result.now in
    rw c.in_ok-push.ensures.items
    (spine_more c.args.tree.now child q.1 c.loop-operator.above.items _ c.loop-operator.invariant
    (joins_left c.in-Some.operator node q.0 q.1 child q.2 c.child-node.ensures.tree))

pub loop-operator-smaller : goal.loop-operator-smaller
loop-operator-smaller c =
    let q = c.in-Some.ensures in
    let node = c.loop-operator.node.now in
    let child = c.child-node.result.now in
    left_smaller c.in-Some.operator node child q.1
    (joins_left c.in-Some.operator node q.0 q.1 child q.2 c.child-node.ensures.tree)
