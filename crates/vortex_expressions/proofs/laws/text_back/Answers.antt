use Rattle.vortex_expressions.proofs.ReadBack.{text_back}
use Rattle.vortex_expressions.proofs.laws.text_back.Goals as goal

pub returns : goal.returns
returns c = λ scope tree text o e. text_back scope tree text o e
