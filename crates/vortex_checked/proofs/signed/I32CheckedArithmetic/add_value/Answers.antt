use Rattle.std.proofs.lemmas.Int.{wraps}
use Rattle.vortex_checked.proofs.signed.I32CheckedArithmetic.add_value.Goals as goal

pub returns : goal.returns
returns c = search wraps
