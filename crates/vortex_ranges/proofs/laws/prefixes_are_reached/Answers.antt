use Rattle.vortex_ranges.proofs.PrefixesReached.{prefixes_reached}
use Rattle.vortex_ranges.proofs.laws.prefixes_are_reached.Goals as goal

pub returns : goal.returns
returns c = prefixes_reached
