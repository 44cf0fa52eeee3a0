use Rattle.std.proofs.Common.{◌≡◌, vec_len}
use Rattle.vortex_syntax.specs.Reading.{frames_in, steps_in, settled}
use Rattle.vortex_syntax.proofs.reading.Reading.settle.Given as goal

abbrev pub invariant-loop-closed : goal.invariant-loop-closed
invariant-loop-closed l = settled l.fn.reach l.fn.level (frames_in l.fn.self) (steps_in l.fn.self)
    ≡ settled l.fn.reach l.level (frames_in l.self) (steps_in l.self)

abbrev pub decreases-loop-closed : goal.decreases-loop-closed
decreases-loop-closed l = vec_len l.self.frames
