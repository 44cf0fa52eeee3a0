use Rattle.std.proofs.Common.{◌+◌, All}
use Rattle.vortex_types.specs.Values.{value_depth}
use Rattle.vortex_types.specs.Typing.{HasType}
use Rattle.vortex_columns.specs.Cells.{sequence_value}
use Rattle.vortex_columns.specs.Shapes.{shape_type}
use Rattle.vortex_columns.specs.Questions.{frames_in}
use Rattle.vortex_columns.specs.ValueSizes.{size_from}
use Rattle.vortex_columns.proofs.AskedFrames.{Mean, IsWithin, rest_sizes}
use Rattle.vortex_columns.proofs.typing.+has_shape.Given as goal

abbrev pub decreases-has_shape : goal.decreases-has_shape
decreases-has_shape l = value_depth (sequence_value l.root.now)

abbrev pub invariant-loop-here : goal.invariant-loop-here
invariant-loop-here l =
    record {
      meaning :
          Mean l.here (frames_in l.above) (HasType (shape_type l.shape) (sequence_value l.root));
      within : IsWithin (value_depth (sequence_value l.root)) l.here;
      above_within : All (IsWithin (value_depth (sequence_value l.root))) (frames_in l.above);
    }

abbrev pub decreases-loop-here : goal.decreases-loop-here
decreases-loop-here l = rest_sizes (frames_in l.above) + size_from l.here.next l.here.values
