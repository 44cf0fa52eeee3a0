use Rattle.yurkije_lent.proofs.FloatSides.{same_each}
use Rattle.yurkije_lent.proofs.float_lanes.OneNumberLanes.lanes.Goals as goal

pub returns-clause-each : goal.returns-clause-each
returns-clause-each g c = λ j lt. same_each g.T.NativePType.number 64 c.args.self.now.value j lt
