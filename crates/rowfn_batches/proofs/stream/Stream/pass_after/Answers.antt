use Rattle.std.proofs.Common.{refl}
use Rattle.rowfn_batches.proofs.stream.Stream.pass_after.Goals as goal

pub returns-in-Some : goal.returns-in-Some
returns-in-Some g c = rw c.in-Some.is c.pass_misshapen.ensures

pub returns-in-None : goal.returns-in-None
returns-in-None g c = rw c.in-None.is (refl, refl, refl)
