use Rattle.rowfn_scripts.proofs.AfterRules.{are_sound}
use Rattle.rowfn_scripts.proofs.Fitting.{refuses_faults_after_alone}
use Rattle.rowfn_scripts.proofs.laws.run_after_refuses_faults_alone.Goals as goal

pub returns : goal.returns
returns g c =
    λ lines read n limit s t stack e reached known top.
    refuses_faults_after_alone _ _
    (are_sound g.met.C.ScalarFnVTable.lawful g.met.C.ScalarFnRules.rules_lawful)
    lines read n s t stack reached known top limit e
