use Rattle.vortex_interface.proofs.CutTables.{batches_answer_as_one}
use Rattle.vortex_interface.proofs.laws.batches_answer_as_one.Goals as goal

pub returns : goal.returns
returns g c = batches_answer_as_one g.C.ScalarFnVTable.meaning
