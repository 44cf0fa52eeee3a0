use Rattle.std.proofs.Common.{arith}
use Rattle.vortex_kernels.proofs.LaneWords.{row_of_part}
use Rattle.yurkije_lent.proofs.float_lanes.ListedPatternsLanes.patterns.Goals as goal

pub slice_bounds-result-end : goal.slice_bounds-result-end
slice_bounds-result-end g c = omega (arith, c.requires.rows 63 (omega arith))

pub returns-clause-each : goal.returns-clause-each
returns-clause-each g c = λ j lt.
    row_of_part g.T.FloatLane.key c.args.self.now.patterns.now c.args.at 64 j lt
