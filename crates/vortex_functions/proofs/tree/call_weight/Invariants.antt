use Rattle.std.proofs.Common.{◌≡◌, ◌+◌, map, take}
use Rattle.vortex_interface.specs.Trees.{trees_of}
use Rattle.vortex_interface.specs.Weights.{added, weights}
use Rattle.vortex_functions.specs.FunctionOf.{function_of}
use Rattle.vortex_functions.proofs.CallWeights.{told}
use Rattle.vortex_functions.proofs.tree.call_weight.Given as goal

-- the weights so far
abbrev pub invariant-loop-child : goal.invariant-loop-child
invariant-loop-child g l =
    l.weight ≡ told (added (function_of l.function) l.nullable
    + weights g.C.ScalarFnVTable.meaning
    (trees_of (take l.child-index (map g.L.Leaf.tree_of l.children))))
