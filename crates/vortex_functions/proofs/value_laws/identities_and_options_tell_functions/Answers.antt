use Rattle.vortex_functions.proofs.Identities.{told_by}
use Rattle.vortex_functions.proofs.value_laws.identities_and_options_tell_functions.Goals as goal

pub returns : goal.returns
returns g c = told_by g.C.ScalarFnVTable.meaning g.C.Options.PartialEq.eq
