use Rattle.vortex_interface.specs.Trees.{node_count}
use Rattle.vortex_program.specs.Deciding.{IsSpine}
use Rattle.vortex_program.proofs.deciding.spine.Given as goal

-- the nodes so far lead from the tree to the node
abbrev pub invariant-loop-operator : goal.invariant-loop-operator
invariant-loop-operator l = IsSpine l.tree l.above.items l.node

abbrev pub decreases-loop-operator : goal.decreases-loop-operator
decreases-loop-operator l = node_count l.node
