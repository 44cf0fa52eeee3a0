use Rattle.vortex_syntax.proofs.Lexed.{one_list}
use Rattle.vortex_syntax.proofs.laws.one_list.Goals as goal

pub returns : goal.returns
returns c = λ text ts vs l m. one_list l m
