use Rattle.rowfn_csv.proofs.RoundTrip.{cells_read_back}
use Rattle.rowfn_csv.proofs.laws.cells_read_back.Goals as goal

pub returns : goal.returns
returns c = cells_read_back
