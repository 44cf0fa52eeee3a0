use Rattle.vortex_logical.proofs.DateLemmas as dates
use Rattle.vortex_logical.proofs.dates.dates_are_read_back.Goals as goal

pub returns : goal.returns
returns c = dates.dates_are_read_back
