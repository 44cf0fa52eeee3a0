use Rattle.vortex_ranges.proofs.BetweensReached.{betweens_reached}
use Rattle.vortex_ranges.proofs.laws.betweens_are_reached.Goals as goal

pub returns : goal.returns
returns c = betweens_reached
