use Rattle.std.proofs.Common.{[]}
use Rattle.vortex_interface.proofs.ArithmeticErrs.{faults_exactly}
use Rattle.vortex_functions.specs.Arrays.{tree_in, rows_in}
use Rattle.vortex_arrays.proofs.laws.arrays_err_where_arithmetic_does.Goals as goal

pub returns : goal.returns
returns g c = λ a own.
    faults_exactly g.C.ScalarFnVTable.meaning [] (rows_in a) (tree_in a) own
