use Rattle.std.proofs.Common.{arith, true≢false, sym}
use Rattle.vortex_interface.specs.Trees.{children_of}
use Rattle.vortex_standard.specs.Standard.{standard_meaning}
use Rattle.vortex_functions.proofs.Listed.{now_of, relisted, nothing_listed, all_listed, none_left}
use Rattle.vortex_functions.proofs.Listed.{listed_fewer}
use Rattle.vortex_program.proofs.Faultless.{listed_free, last_free}
use Rattle.vortex_program.proofs.infallible.infallible_pattern.Goals as goal

pub loop-node-preserved : goal.loop-node-preserved
loop-node-preserved c =
    let kids = children_of c.loop-node.node.now in
    let before = now_of c.loop-node.list.items in
    let listed =
    all_listed before c.children-child-items.result.now kids (now_of c.loop-child.list.items)
    c.loop-child.child-index c.loop-child.invariant c.loop-child-test.false
    c.children-child-items.ensures.children in
    listed_free standard_meaning c.args.tree.now c.loop-node.node.now c.in-Some.next.now before
    (now_of c.pop.new.self.items) c.loop-node.invariant
    (c.is_node_infallible.ensures c.if-not-is_node_infallible.false)
    (relisted before kids c.loop-child.list.items c.pop.new.self.items c.in-Some.next listed
    c.in-Some.ensures.items)

pub loop-node-smaller : goal.loop-node-smaller
loop-node-smaller c =
    let kids = children_of c.loop-node.node.now in
    let before = now_of c.loop-node.list.items in
    let listed =
    all_listed before c.children-child-items.result.now kids (now_of c.loop-child.list.items)
    c.loop-child.child-index c.loop-child.invariant c.loop-child-test.false
    c.children-child-items.ensures.children in
    listed_fewer c.loop-node.node.now c.in-Some.next.now before (now_of c.pop.new.self.items)
    (relisted before kids c.loop-child.list.items c.pop.new.self.items c.in-Some.next listed
    c.in-Some.ensures.items)

pub returns-in_default : goal.returns-in_default
returns-in_default c =
    let kids = children_of c.loop-node.node.now in
    let before = now_of c.loop-node.list.items in
    let listed =
    all_listed before c.children-child-items.result.now kids (now_of c.loop-child.list.items)
    c.loop-child.child-index c.loop-child.invariant c.loop-child-test.false
    c.children-child-items.ensures.children in
    let none = none_left c.loop-child.list.items
    (λ h. true≢false
    (sym (c.in_default.ensures.variant.1 (omega (arith, h, c.loop-child.list.ok.0))))) in
    last_free standard_meaning c.args.tree.now c.loop-node.node.now before
    c.loop-node.invariant (c.is_node_infallible.ensures c.if-not-is_node_infallible.false)
    (nothing_listed before kids c.loop-child.list.items listed none)
