use Rattle.vortex_expressions.specs.Answers.{answer_in}
use Rattle.vortex_expressions.proofs.Finding.{told_first, handed_on}
use Rattle.vortex_expressions.proofs.answers.bind_answer.Goals as goal

pub returns-in_err-tree : goal.returns-in_err-tree
returns-in_err-tree c =
    handed_on answer_in _ _ _ c.from_residual.ensures.1 (told_first _ _ _ c.in_err-tree.ensures)
