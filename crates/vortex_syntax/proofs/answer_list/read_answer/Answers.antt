use Rattle.std.proofs.Common.{map, ap, subst}
use Rattle.vortex_syntax.specs.Tokens.{token_in}
use Rattle.vortex_syntax.specs.AnswerParts.{split_answer, answer_of, Tells}
use Rattle.vortex_syntax.proofs.answer_list.read_answer.Goals as goal

pub returns-in-Some-clause-told : goal.returns-in-Some-clause-told
unfolding answer_of
returns-in-Some-clause-told c =
    subst (Tells c.read_named.result)
    (ap (split_answer (map token_in c.args.tokens.now)) c.in-Some.ensures) c.read_named.ensures.told

pub returns-in-None-clause-told : goal.returns-in-None-clause-told
unfolding answer_of
returns-in-None-clause-told c =
    subst (Tells c.read_named-in-None.result)
    (ap (split_answer (map token_in c.args.tokens.now)) c.in-None.ensures)
    c.read_named-in-None.ensures.told
