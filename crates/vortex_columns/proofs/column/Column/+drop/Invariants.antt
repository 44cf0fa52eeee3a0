use Rattle.std.proofs.Common.{◌+◌, ◌≤◌, max}
use Rattle.vortex_types.specs.LogicalTypes.{type_depth}
use Rattle.vortex_columns.specs.ColumnParts.{column_weights, deepest, weight_within, deepest_within}
use Rattle.vortex_columns.proofs.column.Column.+drop.Given as goal

abbrev pub decreases-drop : goal.decreases-drop
decreases-drop l = goal.size-drop l

-- what is still to be dropped is deeper than the column itself
abbrev pub invariant-loop-next : goal.invariant-loop-next
invariant-loop-next l =
    max (deepest_within l.next) (deepest l.list.items) ≤ type_depth l.fn.self.dtype

abbrev pub decreases-loop-next : goal.decreases-loop-next
decreases-loop-next l = weight_within l.next + column_weights l.list.items
