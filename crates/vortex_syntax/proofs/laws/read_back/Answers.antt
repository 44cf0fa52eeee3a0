use Rattle.vortex_syntax.proofs.Written.{read_back}
use Rattle.vortex_syntax.proofs.laws.read_back.Goals as goal

pub returns : goal.returns
returns c = λ t f w n. read_back t f w n
