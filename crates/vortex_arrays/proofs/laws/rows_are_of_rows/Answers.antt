use Rattle.vortex_arrays.proofs.PushedRows.{rows_are_of_rows}
use Rattle.vortex_arrays.proofs.laws.rows_are_of_rows.Goals as goal

pub returns : goal.returns
returns g c = rows_are_of_rows g.C.ScalarFnVTable.meaning
