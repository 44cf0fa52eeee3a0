use Rattle.vortex_syntax.proofs.AnswerSplits.{one_answers}
use Rattle.vortex_syntax.proofs.laws.one_answer_list.Goals as goal

pub returns : goal.returns
returns c = λ text bs cs r s. one_answers text bs cs r s
