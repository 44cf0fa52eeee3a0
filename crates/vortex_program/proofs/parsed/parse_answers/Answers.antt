use Rattle.std.proofs.Common.{sym, subst}
use Rattle.vortex_syntax.specs.AnswerLists.{ReadsAnswers}
use Rattle.vortex_expressions.specs.Reading.{UnreadBy}
use Rattle.vortex_program.proofs.parsed.parse_answers.Goals as goal

pub returns-in-Err-clause-only : goal.returns-in-Err-clause-only
returns-in-Err-clause-only c = λ list read.
    subst (λ e. UnreadBy e c.of_syntax.result)
    (c.in-Err.ensures.only list
    (subst (λ w. ReadsAnswers w list) (sym c.as_bytes.ensures.value) read))
    c.of_syntax.ensures
