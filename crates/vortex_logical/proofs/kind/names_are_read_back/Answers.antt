use Rattle.vortex_logical.proofs.KindNames as names
use Rattle.vortex_logical.proofs.kind.names_are_read_back.Goals as goal

pub returns : goal.returns
returns c = names.names_are_read_back
