use Rattle.std.specs.Prelude.{⊤}
use Rattle.vortex_interface.specs.Trees.{children_of}
use Rattle.vortex_functions.proofs.Chains.{Walking}
use Rattle.vortex_pruning.specs.Residuals.{IsResidual}
use Rattle.vortex_pruning.proofs.residuals.residual.Given as goal

-- a walk, with what is left of the node's first children
abbrev pub invariant-loop-step : goal.invariant-loop-step
invariant-loop-step g l =
    Walking children_of (λ t. ⊤)
    (λ t r. IsResidual g.C.ScalarFnVTable.meaning l.rows l.statistics t r) l.tree
    l.above.items l.node l.inputs.items
