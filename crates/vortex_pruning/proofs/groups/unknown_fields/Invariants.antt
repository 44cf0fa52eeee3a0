use Rattle.std.proofs.Common.{take}
use Rattle.vortex_functions.specs.Walks.{AllMean}
use Rattle.vortex_pruning.specs.Groups.{IsOfField}
use Rattle.vortex_pruning.proofs.groups.unknown_fields.Given as goal

-- statistics of the fields so far
abbrev pub invariant-loop-number : goal.invariant-loop-number
invariant-loop-number l = AllMean IsOfField (take l.number l.fields) l.found.items
