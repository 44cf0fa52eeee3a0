use Rattle.rowfn_batches.proofs.ReadingBack.{rows_read_back}
use Rattle.rowfn_batches.proofs.laws.rows_read_back.Goals as goal

pub returns : goal.returns
returns c = rows_read_back
