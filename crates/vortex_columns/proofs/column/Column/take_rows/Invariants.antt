use Rattle.std.proofs.Common.{◌+◌}
use Rattle.vortex_columns.specs.TakenFrames.{Fits, filled, taking, IsSound, step_taking}
use Rattle.vortex_columns.specs.TakenFrames.{rows_in, frame_weight, step_weight}
use Rattle.vortex_columns.specs.Frames.{Make, frames_weight}
use Rattle.vortex_columns.proofs.column.Column.take_rows.Given as goal

abbrev pub invariant-loop-step : goal.invariant-loop-step
invariant-loop-step l =
    IsSound l.step
    × Make Fits filled l.frames.items (step_taking l.step) (taking (rows_in l.fn.rows) l.fn.self)

abbrev pub decreases-loop-step : goal.decreases-loop-step
decreases-loop-step l = frames_weight frame_weight l.frames.items + step_weight l.step
