use Rattle.std.proofs.Common.{rules, refl, ◌<◌, arith, sym, ap, ◌∙◌}
use Rattle.vortex_interface.specs.Trees.{node_count}
use Rattle.vortex_functions.specs.declared.tree.Parts.{Parts}
use Rattle.vortex_functions.specs.declared.tree.Tree.TheInside.{Inside}
use Rattle.vortex_functions.specs.Nodes.{tree_view}
use Rattle.vortex_functions.proofs.Counts.{nodes_of, all_nodes, nodes_count_push, opened, positive}
use Rattle.vortex_functions.proofs.Leaves.{one_node}
use Rattle.vortex_functions.proofs.tree.Tree.+drop.Goals.{in-Leaf-replace}
use Rattle.vortex_functions.proofs.tree.Tree.+drop.Goals.{in-Call-replace+in-Some-into_inner+in_default-pop}
use Rattle.vortex_functions.proofs.tree.Tree.+drop.Goals.{in-Call-replace+in_default-into_inner}
use Rattle.vortex_functions.proofs.tree.Tree.+drop.Goals as goal

-- a child of a listed tree is smaller than the tree
pub drop-requires : goal.drop-requires
drop-requires g t c κs within =
    let l = g.L.Leaf in
    let N = all_nodes l in
    let listed =
    ap N c.in-Some-pop.ensures.items
    ∙ nodes_count_push l.tree_of c.pop.new.self.items c.in-Some-pop.tree in
    let is =
    opened l c.in-Some-pop.tree c.tree.inside _ c.tree.view_is
    (sym c.replace.ensures.value ∙ c.in-Call-replace.is) in
    let below = ap node_count is in
    let taken = ap (λ (p : Parts _ _ _ _ _). N p.children.items) c.in-Some-into_inner.ensures in
    let popped =
    ap N c.in-Some-pop-2.ensures.items
    ∙ nodes_count_push l.tree_of c.pop-in-loop-child.new.self.items c.in-Some-pop-2.child in
    let back = ap (nodes_of l) c.in-Err.ensures.value_returned in
    let fewer : nodes_of l c.in-Err.failed.value < nodes_of l c.args.self =
    omega (
      arith,
      c.loop-tree.invariant,
      listed,
      below,
      taken,
      c.loop-child.invariant,
      popped,
      back,
    ) in
    search (rules, fewer)

-- the content of a tree that was taken apart is one node
pub drop-tree-requires : goal.drop-tree-requires
drop-tree-requires g t c κs within =
    let l = g.L.Leaf in
    let N = all_nodes l in
    let listed =
    ap N c.in-Some-pop.ensures.items
    ∙ nodes_count_push l.tree_of c.pop.new.self.items c.in-Some-pop.tree in
    let emptied : Inside _ _ _ _ _ =
    record { node = c.replace.new.dest; context = c.tree.inside.context } in
    let blank = opened l (tree_view l.tree_of l.see l.seen emptied) emptied _ refl
    c.replace.ensures.after in
    let one = ap node_count blank ∙ one_node _ (l.not_called c.blank-nothing.result) in
    let fewer : nodes_of l (tree_view l.tree_of l.see l.seen emptied) < nodes_of l c.args.self =
    omega (arith, c.loop-tree.invariant, listed, positive (l.tree_of c.in-Some-pop.tree), one) in
    search (rules, fewer)

-- one tree less is listed, and its children more if it was taken apart
pub loop-tree-smaller : goal.loop-tree-smaller
loop-tree-smaller g t c =
    let l = g.L.Leaf in
    let N = all_nodes l in
    let listed =
    ap N c.in-Some-pop.ensures.items
    ∙ nodes_count_push l.tree_of c.pop.new.self.items c.in-Some-pop.tree in
    let some = positive (l.tree_of c.in-Some-pop.tree) in
    elim c.match-replace.branch [
      | in-Leaf-replace w ↦ search (rules, listed, some)
      | in-Call-replace+in-Some-into_inner+in_default-pop w ↦
          let is =
          opened l c.in-Some-pop.tree c.tree.inside _ c.tree.view_is
          (sym c.replace.ensures.value ∙ w.in-Call-replace.is) in
          let below = ap node_count is in
          let taken =
          ap (λ (p : Parts _ _ _ _ _). N p.children.items) w.in-Some-into_inner.ensures in
          search (rules, listed, below, taken, w.loop-child.invariant)
      | in-Call-replace+in_default-into_inner w ↦ search (rules, listed, some)
    ]

pub loop-tree-preserved : goal.loop-tree-preserved
loop-tree-preserved g t c =
    let fewer : all_nodes g.L.Leaf c.match-replace.list.items
    < all_nodes g.L.Leaf c.loop-tree.list.items =
    loop-tree-smaller g t c in
    omega (arith, fewer, c.loop-tree.invariant)
