use Rattle.vortex_interface.specs.ComparisonTrees.{inverse_negates}
use Rattle.vortex_interface.proofs.laws.inverse_negates.Goals as goal

pub returns : goal.returns
returns g c = inverse_negates g.C.ScalarFnVTable.meaning
