use Rattle.vortex_ranges.proofs.Compared.{comparisons_admitted}
use Rattle.vortex_ranges.proofs.laws.comparisons_are_admitted.Goals as goal

pub returns : goal.returns
returns c = comparisons_admitted
