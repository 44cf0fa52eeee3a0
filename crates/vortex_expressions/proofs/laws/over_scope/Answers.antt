use Rattle.vortex_expressions.proofs.ReadOver.{tree_over}
use Rattle.vortex_expressions.proofs.laws.over_scope.Goals as goal

pub returns : goal.returns
returns c = λ scope text tree e. tree_over scope e.syntax tree e.bound
