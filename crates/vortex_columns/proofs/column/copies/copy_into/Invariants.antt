use Rattle.std.proofs.Common.{◌+◌}
use Rattle.vortex_columns.specs.CopyFrames.{Fits, IsSound, step_view, step_weight, filled}
use Rattle.vortex_columns.specs.CopyFrames.{frame_weight}
use Rattle.vortex_columns.specs.Frames.{Make, frames_weight}
use Rattle.vortex_columns.proofs.column.copies.copy_into.Given as goal

abbrev pub invariant-loop-step : goal.invariant-loop-step
invariant-loop-step l =
    IsSound l.step
    × Make Fits filled l.frames.items (step_view l.step) (filled l.fn.frame l.fn.inside)

abbrev pub decreases-loop-step : goal.decreases-loop-step
decreases-loop-step l = frames_weight frame_weight l.frames.items + step_weight l.step
