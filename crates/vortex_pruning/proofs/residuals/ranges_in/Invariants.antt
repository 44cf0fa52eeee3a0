use Rattle.std.proofs.Common.{◌≡◌, map, take}
use Rattle.vortex_pruning.proofs.residuals.ranges_in.Given as goal

abbrev pub invariant-loop-input : goal.invariant-loop-input
invariant-loop-input g l = l.ranges.items ≡ map (λ r. r.range) (take l.input-index l.inputs)
