use Rattle.std.proofs.Common.{◌≡◌, false, not, take}
use Rattle.std.specs.List.{list_any}
use Rattle.vortex_ranges.proofs.functions.any_is_null.Given as goal

-- none so far
abbrev pub invariant-loop-input : goal.invariant-loop-input
invariant-loop-input l =
    list_any (λ r. not r.may_be_value) (take l.input-index l.inputs) ≡ false
