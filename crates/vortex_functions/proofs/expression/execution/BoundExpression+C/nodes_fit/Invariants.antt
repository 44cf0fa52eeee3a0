use Rattle.std.proofs.Common.{◌≡◌, ◌↔◌, ◌+◌, ◌++◌, take}
use Rattle.vortex_interface.specs.Trees.{trees_of, node_count, nodes_count}
use Rattle.vortex_interface.specs.Execution.{LeavesFit}
use Rattle.vortex_functions.proofs.Listed.{now_of, AllFit}
use Rattle.vortex_functions.proofs.expression.execution.BoundExpression+C.nodes_fit.Given as goal

-- the leaves of the tree match where those of the node and of the listed trees do
abbrev pub invariant-loop-node : goal.invariant-loop-node
invariant-loop-node g l =
    LeavesFit l.columns l.self
    ↔ (LeavesFit l.columns l.node × AllFit l.columns (now_of l.list.items))

abbrev pub decreases-loop-node : goal.decreases-loop-node
decreases-loop-node g l = node_count l.node + nodes_count (trees_of (now_of l.list.items))

-- the children so far follow the list
abbrev pub invariant-loop-child : goal.invariant-loop-child
invariant-loop-child g l =
    now_of l.list.items ≡ now_of l.initial.list.items ++ take l.child-index l.child-items
