use Rattle.vortex_ranges.proofs.KleeneTables.{truths_admitted}
use Rattle.vortex_ranges.proofs.laws.truths_are_admitted.Goals as goal

pub returns : goal.returns
returns c = truths_admitted
