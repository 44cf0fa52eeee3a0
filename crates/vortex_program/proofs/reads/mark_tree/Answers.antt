use Rattle.std.proofs.Common.{arith, true≢false, sym}
use Rattle.vortex_interface.specs.Trees.{children_of}
use Rattle.vortex_functions.proofs.Listed.{now_of, relisted, nothing_listed, all_listed, none_left}
use Rattle.vortex_functions.proofs.Listed.{listed_fewer}
use Rattle.vortex_program.proofs.ReadColumns.{marked_first, looked_next, looked_last}
use Rattle.vortex_program.proofs.reads.mark_tree.Goals as goal

pub loop-child-init : goal.loop-child-init
loop-child-init c =
    rw c.new-list.ensures.items (marked_first c.args.read.now.items c.args.tree.now)

pub loop-child-preserved : goal.loop-child-preserved
loop-child-preserved c =
    let node = c.loop-child.node.now in
    let kids = children_of node in
    let before = now_of c.loop-child.list.items in
    let listed =
    all_listed before c.children-child-items.result.now kids (now_of c.loop-child-2.list.items)
    c.loop-child-2.child-index c.loop-child-2.invariant c.loop-child-2-test.false
    c.children-child-items.ensures.children in
    looked_next c.args.read.now.items c.args.tree.now c.loop-child.read.items
    c.mark_leaf.new.read.items node c.in-Some.next.now before (now_of c.pop.new.self.items)
    c.loop-child.invariant c.mark_leaf.ensures
    (relisted before kids c.loop-child-2.list.items c.pop.new.self.items c.in-Some.next listed
    c.in-Some.ensures.items)

pub loop-child-smaller : goal.loop-child-smaller
loop-child-smaller c =
    let node = c.loop-child.node.now in
    let kids = children_of node in
    let before = now_of c.loop-child.list.items in
    let listed =
    all_listed before c.children-child-items.result.now kids (now_of c.loop-child-2.list.items)
    c.loop-child-2.child-index c.loop-child-2.invariant c.loop-child-2-test.false
    c.children-child-items.ensures.children in
    listed_fewer node c.in-Some.next.now before (now_of c.pop.new.self.items)
    (relisted before kids c.loop-child-2.list.items c.pop.new.self.items c.in-Some.next listed
    c.in-Some.ensures.items)

pub returns-in_default : goal.returns-in_default
returns-in_default c =
    let node = c.loop-child.node.now in
    let kids = children_of node in
    let before = now_of c.loop-child.list.items in
    let listed =
    all_listed before c.children-child-items.result.now kids (now_of c.loop-child-2.list.items)
    c.loop-child-2.child-index c.loop-child-2.invariant c.loop-child-2-test.false
    c.children-child-items.ensures.children in
    let none = none_left c.loop-child-2.list.items
    (λ h. true≢false
    (sym (c.in_default.ensures.variant.1 (omega (arith, h, c.loop-child-2.list.ok.0))))) in
    looked_last c.args.read.now.items c.args.tree.now c.loop-child.read.items
    c.mark_leaf.new.read.items node before c.loop-child.invariant c.mark_leaf.ensures
    (nothing_listed before kids c.loop-child-2.list.items listed none)
