use Rattle.vortex_logical.proofs.DateLemmas.{dated_between}
use Rattle.vortex_logical.proofs.DatedDays.{in_range_dated}
use Rattle.vortex_logical.proofs.dates.dated_days.Goals as goal

pub returns : goal.returns
returns c = λ z. (dated_between z, λ r. in_range_dated z r.0 r.1)
