use Rattle.std.proofs.Common.{◌≡◌, ◌+◌, ◌++◌, take}
use Rattle.vortex_interface.specs.Trees.{trees_of, node_count, nodes_count}
use Rattle.vortex_functions.proofs.Listed.{now_of}
use Rattle.vortex_program.proofs.WideTrees.{IsMostWith}
use Rattle.vortex_program.proofs.widths.tree_width.Given as goal

-- the most so far, of the node and of what is listed is that of the tree
abbrev pub invariant-loop-child : goal.invariant-loop-child
invariant-loop-child l = IsMostWith l.tree l.most l.node (now_of l.list.items)

abbrev pub decreases-loop-child : goal.decreases-loop-child
decreases-loop-child l = node_count l.node + nodes_count (trees_of (now_of l.list.items))

-- the children so far follow what was listed
abbrev pub invariant-loop-child-2 : goal.invariant-loop-child-2
invariant-loop-child-2 l =
    now_of l.list.items ≡ now_of l.initial.list.items ++ take l.child-index l.child-items
