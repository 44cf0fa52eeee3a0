use Rattle.std.proofs.Common.{◌≡◌, map, take}
use Rattle.vortex_pruning.proofs.residuals.trees_in.Given as goal

abbrev pub invariant-loop-input : goal.invariant-loop-input
invariant-loop-input g l = l.trees.items ≡ map (λ r. r.tree) (take l.input-index l.inputs)
