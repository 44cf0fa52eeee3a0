use Rattle.std.proofs.Common.{◌∙◌, arith}
use Rattle.vortex_kernels.proofs.LaneWords.{row_of_part}
use Rattle.yurkije_lent.proofs.float_lanes.ListedNumbersLanes.lanes.Goals as goal

pub slice_bounds-copy_of-end : goal.slice_bounds-copy_of-end
slice_bounds-copy_of-end g c = omega (arith, c.requires.rows 63 (omega arith))

pub returns-clause-each : goal.returns-clause-each
returns-clause-each g c = λ j lt.
    c.copy_of.ensures.each j lt
    ∙ row_of_part g.T.NativePType.number c.args.self.now.values.now c.args.at 64 j lt
