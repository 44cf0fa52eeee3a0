use Rattle.std.proofs.Common.{◌≡◌, false, take}
use Rattle.std.specs.List.{list_any}
use Rattle.vortex_pruning.proofs.call.any_may_fault.Given as goal

-- none so far
abbrev pub invariant-loop-input : goal.invariant-loop-input
invariant-loop-input l = list_any (λ r. r.may_fault) (take l.input-index l.inputs) ≡ false
