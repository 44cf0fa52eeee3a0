use Rattle.std.proofs.Common.{◌<◌}
use Rattle.vortex_types.specs.ValueParts.{value_weights, deepest_value}
use Rattle.vortex_types.specs.declared.scalar_value.ScalarValue.{size-ScalarValue}
use Rattle.vortex_types.proofs.scalar_value.ScalarValue.+drop.Given as goal

abbrev pub decreases-drop : goal.decreases-drop
decreases-drop l = goal.size-drop l

-- what is still to be dropped is deeper than the value itself
abbrev pub invariant-loop-item : goal.invariant-loop-item
invariant-loop-item l = deepest_value l.list.items < size-ScalarValue l.fn.self

abbrev pub decreases-loop-item : goal.decreases-loop-item
decreases-loop-item l = value_weights l.list.items
