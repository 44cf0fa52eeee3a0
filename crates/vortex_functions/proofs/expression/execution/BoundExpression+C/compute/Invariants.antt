use Rattle.std.proofs.Common.{◌+◌, length}
use Rattle.vortex_functions.specs.Executing.{Fits, HasRows}
use Rattle.vortex_interface.specs.Trees.{children_of, node_count}
use Rattle.vortex_functions.proofs.Chains.{Walking, steps_from, steps_above}
use Rattle.vortex_functions.proofs.expression.execution.BoundExpression+C.compute.Given as goal

-- a walk, with the columns of the node's first children
abbrev pub invariant-loop-inputs : goal.invariant-loop-inputs
invariant-loop-inputs g l =
    Walking children_of (Fits l.columns l.row_count)
    (HasRows g.C.ScalarFnVTable.meaning l.columns l.row_count) l.self l.above.items l.node
    l.inputs.items

abbrev pub decreases-loop-inputs : goal.decreases-loop-inputs
decreases-loop-inputs g l =
    steps_above children_of node_count l.above.items
    + steps_from children_of node_count l.node (length l.inputs.items)
