use Rattle.rowfn_scripts.proofs.AfterRules.{are_sound}
use Rattle.rowfn_scripts.proofs.Telling.{prints_a_beginning}
use Rattle.rowfn_scripts.proofs.laws.prints_a_beginning.Goals as goal

pub returns : goal.returns
returns g c =
    prints_a_beginning _ _
    (are_sound g.met.C.ScalarFnVTable.lawful g.met.C.ScalarFnRules.rules_lawful)
