use Rattle.vortex_kernels.proofs.Calculating.{some_is}
use Rattle.vortex_kernels.proofs.checked_loops.checked_rows.Goals as goal

pub returns-clause-fault : goal.returns-clause-fault
returns-clause-fault g c =
    (some_is _ c.in_ok-values.field-0 c.in-Some.values c.in-Some.is c.in_ok-values.ensures).1
