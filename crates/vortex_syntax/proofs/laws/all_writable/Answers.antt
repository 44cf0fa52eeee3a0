use Rattle.vortex_syntax.proofs.Writable.{all_writable}
use Rattle.vortex_syntax.proofs.laws.all_writable.Goals as goal

pub returns : goal.returns
returns c = λ text ts l. all_writable l
