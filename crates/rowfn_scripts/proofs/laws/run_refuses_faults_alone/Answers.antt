use Rattle.rowfn_scripts.proofs.AfterRules.{are_sound}
use Rattle.rowfn_scripts.proofs.Fitting.{refuses_faults_alone}
use Rattle.rowfn_scripts.proofs.laws.run_refuses_faults_alone.Goals as goal

pub returns : goal.returns
returns g c =
    λ lines read n s t stack e reached known top.
    refuses_faults_alone _ _
    (are_sound g.met.C.ScalarFnVTable.lawful g.met.C.ScalarFnRules.rules_lawful)
    lines read n s t stack reached known top e
