use Rattle.std.proofs.Common.{◌≡◌, drop}
use Rattle.std.specs.List.{find}
use Rattle.vortex_standard.specs.Names.{has_name}
use Rattle.vortex_standard.proofs.names.first_named.Given as goal

-- none so far
abbrev pub invariant-loop-function : goal.invariant-loop-function
invariant-loop-function l =
    find (has_name l.word) l.functions ≡ find (has_name l.word) (drop l.function-index l.functions)
