use Rattle.vortex_logical.proofs.TimestampLemmas as instants
use Rattle.vortex_logical.proofs.timestamps.timestamps_are_read_back.Goals as goal

pub returns : goal.returns
returns c = instants.timestamps_are_read_back
