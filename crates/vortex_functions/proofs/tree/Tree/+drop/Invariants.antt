use Rattle.std.proofs.Common.{◌+◌, ◌<◌, ◌≤◌}
use Rattle.vortex_functions.proofs.Counts.{nodes_of, all_nodes}
use Rattle.vortex_functions.proofs.tree.Tree.+drop.Given as goal

abbrev pub decreases-drop : goal.decreases-drop
decreases-drop g l = goal.size-drop g l

abbrev pub invariant-loop-child : goal.invariant-loop-child
invariant-loop-child g l =
    all_nodes g.L.Leaf l.list.items + all_nodes g.L.Leaf l.children.items
    ≤ all_nodes g.L.Leaf l.initial.list.items + all_nodes g.L.Leaf l.initial.children.items

abbrev pub decreases-loop-child : goal.decreases-loop-child
decreases-loop-child g l = goal.left-loop-child g l

abbrev pub invariant-loop-tree : goal.invariant-loop-tree
invariant-loop-tree g l = all_nodes g.L.Leaf l.list.items < nodes_of g.L.Leaf l.fn.self

abbrev pub decreases-loop-tree : goal.decreases-loop-tree
decreases-loop-tree g l = all_nodes g.L.Leaf l.list.items
