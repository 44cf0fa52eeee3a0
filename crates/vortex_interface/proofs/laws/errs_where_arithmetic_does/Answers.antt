use Rattle.vortex_interface.proofs.ArithmeticErrs.{errs_where_arithmetic_does}
use Rattle.vortex_interface.proofs.laws.errs_where_arithmetic_does.Goals as goal

pub returns : goal.returns
returns g c = errs_where_arithmetic_does g.C.ScalarFnVTable.meaning
