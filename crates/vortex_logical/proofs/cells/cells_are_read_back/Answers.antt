use Rattle.vortex_logical.proofs.CellLemmas as texts
use Rattle.vortex_logical.proofs.cells.cells_are_read_back.Goals as goal

pub returns : goal.returns
returns c = texts.cells_are_read_back
