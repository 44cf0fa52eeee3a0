use Rattle.vortex_shipped.proofs.laws.options_are_read_back.Goals as goal
use Rattle.vortex_shipped.proofs.OptionFormats.{options_back}

pub returns : goal.returns
returns c = options_back
