use Rattle.std.proofs.Common.{◌+◌, length}
use Rattle.std.specs.Prelude.{⊤}
use Rattle.vortex_functions.specs.Arrays.{children_in}
use Rattle.vortex_functions.specs.ArrayExecuting.{HasArrayRows}
use Rattle.vortex_functions.proofs.Chains.{Walking, steps_from, steps_above}
use Rattle.vortex_functions.proofs.ArrayChildren.{array_nodes}
use Rattle.vortex_functions.proofs.array.execution.ArrayRef+C.compute.Given as goal

-- a walk, with the columns of the node's first children
abbrev pub invariant-loop-inputs : goal.invariant-loop-inputs
invariant-loop-inputs g l =
    Walking children_in (λ a. ⊤) (HasArrayRows g.C.ScalarFnVTable.meaning) l.self l.above.items
    l.node l.inputs.items

abbrev pub decreases-loop-inputs : goal.decreases-loop-inputs
decreases-loop-inputs g l =
    steps_above children_in array_nodes l.above.items
    + steps_from children_in array_nodes l.node (length l.inputs.items)
