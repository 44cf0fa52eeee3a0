use Rattle.std.proofs.Common.{◌≡◌, ◌∷◌, ◌+◌, ◌++◌, take}
use Rattle.vortex_interface.specs.Trees.{trees_of, node_count, nodes_count}
use Rattle.vortex_functions.proofs.Listed.{now_of}
use Rattle.vortex_program.proofs.ReadColumns.{AreMarked}
use Rattle.vortex_program.proofs.reads.mark_tree.Given as goal

-- what is marked or read by what is listed is what was marked and what the tree reads
abbrev pub invariant-loop-child : goal.invariant-loop-child
invariant-loop-child l =
    AreMarked l.initial.read.items l.tree l.read.items (l.node ∷ now_of l.list.items)

abbrev pub decreases-loop-child : goal.decreases-loop-child
decreases-loop-child l = node_count l.node + nodes_count (trees_of (now_of l.list.items))

-- the children so far follow what was listed
abbrev pub invariant-loop-child-2 : goal.invariant-loop-child-2
invariant-loop-child-2 l =
    now_of l.list.items ≡ now_of l.initial.list.items ++ take l.child-index l.child-items
