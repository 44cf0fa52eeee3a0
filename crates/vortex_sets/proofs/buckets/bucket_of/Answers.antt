use Rattle.std.proofs.lemmas.Nat.{and_le_r}
use Rattle.vortex_sets.proofs.buckets.bucket_of.Goals as goal

pub returns-clause-within : goal.returns-clause-within
returns-clause-within c = and_le_r _ c.args.last
