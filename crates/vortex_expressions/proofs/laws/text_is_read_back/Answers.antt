use Rattle.vortex_expressions.proofs.ReadBack.{text_back}
use Rattle.vortex_expressions.proofs.ReadOver.{tree_over}
use Rattle.vortex_expressions.proofs.laws.text_is_read_back.Goals as goal

pub returns : goal.returns
returns c = λ scope text other tree e g. text_back scope tree other
    (tree_over scope e.syntax tree e.bound) g
