use Rattle.std.proofs.Common.{◌≡◌, ◌+◌, ◌++◌, string_bytes}
use Rattle.vortex_columns.specs.Cells.{sequence_value, IsSequence}
use Rattle.vortex_columns.specs.Printing.{value_text}
use Rattle.vortex_columns.specs.Shapes.{shape_type}
use Rattle.vortex_columns.specs.ValueSizes.{size_from}
use Rattle.vortex_columns.proofs.WrittenFrames.{rest, rests, AreThere, size_around}
use Rattle.vortex_columns.proofs.value_text.write_sequence.Given as goal

-- what is written and what is left are the whole text
abbrev pub invariant-loop-current : goal.invariant-loop-current
invariant-loop-current l =
    (string_bytes l.out ++ (rest l.typed l.current ++ rests l.typed l.above.items)
    ≡ string_bytes l.fn.out ++ value_text l.typed (shape_type l.shape) (sequence_value l.values))
    × IsSequence l.current.values × AreThere l.above.items

abbrev pub decreases-loop-current : goal.decreases-loop-current
decreases-loop-current l =
    size_around l.above.items + size_from l.current.next l.current.values
