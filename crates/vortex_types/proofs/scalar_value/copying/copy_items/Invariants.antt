use Rattle.std.proofs.Common.{◌≡◌, ◌+◌, ◌*◌, ◌++◌}
use Rattle.vortex_types.specs.ValueOf.{values_or_null}
use Rattle.vortex_types.specs.ValueParts.{value_weights}
use Rattle.vortex_types.proofs.ValueCopies.{plug, left_above}
use Rattle.vortex_types.proofs.scalar_value.copying.copy_items.Given as goal

abbrev pub invariant-loop-item : goal.invariant-loop-item
invariant-loop-item l =
    plug l.above.items (values_or_null (l.copies.items ++ l.rest))
    ≡ values_or_null l.root.items

abbrev pub decreases-loop-item : goal.decreases-loop-item
decreases-loop-item l = left_above l.above.items + 2 * value_weights l.rest
