use Rattle.std.proofs.Common.{◌≡◌, ◌+◌, length}
use Rattle.vortex_columns.specs.Cells.{sequence_value, IsSequence}
use Rattle.vortex_columns.specs.ValueSizes.{size_from}
use Rattle.vortex_columns.proofs.Copied.{focus, plug, AreThere, size_above}
use Rattle.vortex_columns.proofs.cell.copy_values.Given as goal

abbrev pub invariant-loop-values : goal.invariant-loop-values
invariant-loop-values l =
    (plug l.above.items (focus l.values l.copies.items) ≡ sequence_value l.root)
    × IsSequence l.values × AreThere l.above.items

abbrev pub decreases-loop-values : goal.decreases-loop-values
decreases-loop-values l =
    size_above l.above.items + size_from (length l.copies.items) l.values
