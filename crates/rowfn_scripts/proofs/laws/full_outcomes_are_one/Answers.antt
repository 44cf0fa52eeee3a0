use Rattle.rowfn_scripts.proofs.AfterRules.{are_sound}
use Rattle.rowfn_scripts.proofs.OneOutcome.{full_outcomes_are_one}
use Rattle.rowfn_scripts.proofs.laws.full_outcomes_are_one.Goals as goal

pub returns : goal.returns
returns g c =
    full_outcomes_are_one _ _
    (are_sound g.met.C.ScalarFnVTable.lawful g.met.C.ScalarFnRules.rules_lawful)
