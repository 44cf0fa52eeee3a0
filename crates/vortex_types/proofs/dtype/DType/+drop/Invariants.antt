use Rattle.std.proofs.Common.{◌+◌, ◌<◌, max}
use Rattle.vortex_types.specs.TypeParts.{type_weights, deepest, weight_within, deepest_within}
use Rattle.vortex_types.specs.declared.dtype.DType.{size-DType}
use Rattle.vortex_types.proofs.dtype.DType.+drop.Given as goal

abbrev pub decreases-drop : goal.decreases-drop
decreases-drop l = goal.size-drop l

-- what is still to be dropped is deeper than the type itself
abbrev pub invariant-loop-next : goal.invariant-loop-next
invariant-loop-next l =
    max (deepest_within l.next) (deepest l.list.items) < size-DType l.fn.self

abbrev pub decreases-loop-next : goal.decreases-loop-next
decreases-loop-next l = weight_within l.next + type_weights l.list.items
