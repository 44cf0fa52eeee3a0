use Rattle.std.proofs.Common.{arith}
use Rattle.std.proofs.lemmas.Nat.{shr_le}
use Rattle.vortex_sets.proofs.item_set.last_bucket.Goals as goal

pub returns : goal.returns
returns c = omega (arith, shr_le 4294967295 c.min-zeros.result)
