use Rattle.vortex_interface.specs.ComparisonTrees.{swap_turns}
use Rattle.vortex_interface.proofs.laws.swap_turns.Goals as goal

pub returns : goal.returns
returns g c = swap_turns g.C.ScalarFnVTable.meaning
