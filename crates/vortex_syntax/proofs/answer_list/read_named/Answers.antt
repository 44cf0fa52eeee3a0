use Rattle.std.proofs.Common.{ap, option_map}
use Rattle.vortex_syntax.specs.Tokens.{token_in}
use Rattle.vortex_syntax.specs.AnswerParts.{told_as}
use Rattle.vortex_syntax.proofs.answer_list.read_named.Goals as goal

pub returns-clause-told : goal.returns-clause-told
returns-clause-told c = ap (told_as (option_map token_in c.args.name)) c.in_ok-tree.ensures.read
