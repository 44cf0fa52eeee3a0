use Rattle.rowfn_scripts.proofs.AfterRules.{are_sound}
use Rattle.rowfn_scripts.proofs.Fitting.{reached_fits}
use Rattle.rowfn_scripts.proofs.laws.trees_have_texts.Goals as goal

pub returns : goal.returns
returns g c =
    λ lines read s reached.
    (reached_fits _ _ (are_sound g.met.C.ScalarFnVTable.lawful g.met.C.ScalarFnRules.rules_lawful)
    lines read s reached).shown
