use Rattle.vortex_ranges.proofs.OfType.{typed_admitted}
use Rattle.vortex_ranges.proofs.laws.typed_values_are_admitted.Goals as goal

pub returns : goal.returns
returns c = typed_admitted
