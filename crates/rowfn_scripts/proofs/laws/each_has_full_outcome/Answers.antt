use Rattle.rowfn_scripts.proofs.AfterRules.{are_sound}
use Rattle.rowfn_scripts.proofs.EachOutcome.{each_has_full_outcome}
use Rattle.rowfn_scripts.proofs.laws.each_has_full_outcome.Goals as goal

pub returns : goal.returns
returns g c =
    each_has_full_outcome _ _
    (are_sound g.met.C.ScalarFnVTable.lawful g.met.C.ScalarFnRules.rules_lawful)
