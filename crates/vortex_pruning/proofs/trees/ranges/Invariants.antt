use Rattle.std.specs.Prelude.{⊤}
use Rattle.vortex_interface.specs.Trees.{children_of}
use Rattle.vortex_functions.proofs.Chains.{Walking}
use Rattle.vortex_ranges.specs.BoundViews.{range_of}
use Rattle.vortex_pruning.specs.Knowing.{Knows}
use Rattle.vortex_pruning.proofs.trees.ranges.Given as goal

-- a walk, with the ranges of the node's first children
abbrev pub invariant-loop-step : goal.invariant-loop-step
invariant-loop-step g l =
    Walking children_of (λ t. ⊤)
    (λ t r. Knows g.C.ScalarFnVTable.meaning l.rows l.statistics t (range_of r)) l.tree
    l.above.items l.node l.inputs.items
