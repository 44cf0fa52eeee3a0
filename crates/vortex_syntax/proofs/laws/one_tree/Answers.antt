use Rattle.vortex_syntax.proofs.Whole.{one_tree}
use Rattle.vortex_syntax.proofs.laws.one_tree.Goals as goal

pub returns : goal.returns
returns c = λ text t u r s. one_tree text t u r s
