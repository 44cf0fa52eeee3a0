use Rattle.std.proofs.Common.{arith, true≢false, sym, refl}
use Rattle.vortex_interface.specs.Trees.{children_of}
use Rattle.vortex_functions.specs.Executing.{NodeFits}
use Rattle.vortex_functions.proofs.Opened.{refuted}
use Rattle.vortex_functions.proofs.Listed.{now_of, relisted, nothing_listed, all_listed, none_left}
use Rattle.vortex_functions.proofs.Listed.{node_of_fitting, listed_fit, listed_fewer, last_fits}
use Rattle.vortex_functions.proofs.expression.execution.BoundExpression+C.nodes_fit.Goals as goal

pub loop-node-preserved : goal.loop-node-preserved
loop-node-preserved g c =
    let kids = children_of c.loop-node.node.now in
    let before = now_of c.loop-node.list.items in
    let listed =
    all_listed before c.children-child-items.result.now kids (now_of c.loop-child.list.items)
    c.loop-child.child-index c.loop-child.invariant c.loop-child-test.false
    c.children-child-items.ensures.children in
    listed_fit c.args.columns.now c.args.self.now c.loop-node.node.now c.in-Some.next.now before
    (now_of c.pop.new.self.items) c.loop-node.invariant
    (c.node_fits.ensures.0 c.if-not-node_fits.false)
    (relisted before kids c.loop-child.list.items c.pop.new.self.items c.in-Some.next listed
    c.in-Some.ensures.items)

pub loop-node-smaller : goal.loop-node-smaller
loop-node-smaller g c =
    let kids = children_of c.loop-node.node.now in
    let before = now_of c.loop-node.list.items in
    let listed =
    all_listed before c.children-child-items.result.now kids (now_of c.loop-child.list.items)
    c.loop-child.child-index c.loop-child.invariant c.loop-child-test.false
    c.children-child-items.ensures.children in
    listed_fewer c.loop-node.node.now c.in-Some.next.now before (now_of c.pop.new.self.items)
    (relisted before kids c.loop-child.list.items c.pop.new.self.items c.in-Some.next listed
    c.in-Some.ensures.items)

pub returns-in_default : goal.returns-in_default
returns-in_default g c =
    let kids = children_of c.loop-node.node.now in
    let before = now_of c.loop-node.list.items in
    let listed =
    all_listed before c.children-child-items.result.now kids (now_of c.loop-child.list.items)
    c.loop-child.child-index c.loop-child.invariant c.loop-child-test.false
    c.children-child-items.ensures.children in
    let none = none_left c.loop-child.list.items
    (λ h. true≢false
    (sym (c.in_default.ensures.variant.1 (omega (arith, h, c.loop-child.list.ok.0))))) in
    let fit = last_fits c.args.columns.now c.args.self.now c.loop-node.node.now before
    c.loop-node.invariant (c.node_fits.ensures.0 c.if-not-node_fits.false)
    (nothing_listed before kids c.loop-child.list.items listed none) in
    (λ h. fit, λ h. refl)

pub returns-then-not-node_fits : goal.returns-then-not-node_fits
returns-then-not-node_fits g c =
    refuted c.node_fits.result (NodeFits c.args.columns.now c.loop-node.node.now) _
    c.if-not-node_fits.true c.node_fits.ensures
    (λ h. node_of_fitting c.args.columns.now c.loop-node.node.now (c.loop-node.invariant.0 h).0)
