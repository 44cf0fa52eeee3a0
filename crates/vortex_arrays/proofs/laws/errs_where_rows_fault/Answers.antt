use Rattle.vortex_arrays.proofs.PushedRows.{errs_where_rows_fault}
use Rattle.vortex_arrays.proofs.laws.errs_where_rows_fault.Goals as goal

pub returns : goal.returns
returns g c =
    errs_where_rows_fault g.C.ScalarFnVTable.meaning g.met.C.ScalarFnVTable.lawful
