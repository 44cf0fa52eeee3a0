use Rattle.std.proofs.Common.{ap, fold}
use Rattle.vortex_functions.proofs.value_laws.equal_values_hash_equally.Goals as goal

pub returns : goal.returns
returns g c a b state e = ap (fold g.H.Hasher.write state) (g.met.T.Hash.respects_eq a b e)
