use Rattle.std.proofs.Common.{◌≡◌, ◌+◌, ◌++◌, take}
use Rattle.vortex_interface.specs.Trees.{trees_of, node_count, nodes_count}
use Rattle.vortex_standard.specs.Standard.{standard_meaning}
use Rattle.vortex_functions.proofs.Listed.{now_of}
use Rattle.vortex_program.specs.Deciding.{IsInfallible, AllInfallible}
use Rattle.vortex_program.proofs.infallible.infallible_pattern.Given as goal

-- the tree faults for no values where the node and the listed trees fault for none
abbrev pub invariant-loop-node : goal.invariant-loop-node
invariant-loop-node l =
    IsInfallible standard_meaning l.node
    → AllInfallible standard_meaning (trees_of (now_of l.list.items))
    → IsInfallible standard_meaning l.tree

abbrev pub decreases-loop-node : goal.decreases-loop-node
decreases-loop-node l = node_count l.node + nodes_count (trees_of (now_of l.list.items))

-- the children so far follow what was listed
abbrev pub invariant-loop-child : goal.invariant-loop-child
invariant-loop-child l =
    now_of l.list.items ≡ now_of l.initial.list.items ++ take l.child-index l.child-items
