use Rattle.std.proofs.Common.{arith, true≢false, sym}
use Rattle.vortex_interface.specs.Trees.{children_of}
use Rattle.vortex_functions.proofs.Listed.{now_of, relisted, nothing_listed, all_listed, none_left}
use Rattle.vortex_functions.proofs.Listed.{listed_fewer}
use Rattle.vortex_program.proofs.WideTrees.{wide_next, wide_last}
use Rattle.vortex_program.proofs.widths.tree_width.Goals as goal

pub loop-child-init : goal.loop-child-init
loop-child-init c = rw c.new-list.ensures.items (omega arith)

pub loop-child-preserved : goal.loop-child-preserved
loop-child-preserved c =
    let node = c.loop-child.node.now in
    let kids = children_of node in
    let before = now_of c.loop-child.list.items in
    let listed =
    all_listed before c.children-child-items.result.now kids (now_of c.loop-child-2.list.items)
    c.loop-child-2.child-index c.loop-child-2.invariant c.loop-child-2-test.false
    c.children-child-items.ensures.children in
    wide_next c.args.tree.now node c.in-Some.next.now before (now_of c.pop.new.self.items)
    c.loop-child.most c.wider-most.result c.loop-child.invariant c.wider-most.ensures
    (relisted before kids c.loop-child-2.list.items c.pop.new.self.items c.in-Some.next listed
    c.in-Some.ensures.items)

pub loop-child-smaller : goal.loop-child-smaller
loop-child-smaller c =
    let node = c.loop-child.node.now in
    let kids = children_of node in
    let before = now_of c.loop-child.list.items in
    let listed =
    all_listed before c.children-child-items.result.now kids (now_of c.loop-child-2.list.items)
    c.loop-child-2.child-index c.loop-child-2.invariant c.loop-child-2-test.false
    c.children-child-items.ensures.children in
    listed_fewer node c.in-Some.next.now before (now_of c.pop.new.self.items)
    (relisted before kids c.loop-child-2.list.items c.pop.new.self.items c.in-Some.next listed
    c.in-Some.ensures.items)

pub returns-in_default : goal.returns-in_default
returns-in_default c =
    let node = c.loop-child.node.now in
    let kids = children_of node in
    let before = now_of c.loop-child.list.items in
    let listed =
    all_listed before c.children-child-items.result.now kids (now_of c.loop-child-2.list.items)
    c.loop-child-2.child-index c.loop-child-2.invariant c.loop-child-2-test.false
    c.children-child-items.ensures.children in
    let none = none_left c.loop-child-2.list.items
    (λ h. true≢false
    (sym (c.in_default.ensures.variant.1 (omega (arith, h, c.loop-child-2.list.ok.0))))) in
    wide_last c.args.tree.now node before c.loop-child.most c.wider-most.result
    c.loop-child.invariant c.wider-most.ensures
    (nothing_listed before kids c.loop-child-2.list.items listed none)
