use Rattle.std.proofs.Common.{lit<, Some, None}
use Rattle.std.proofs.lemmas.Str.Pattern.{strip_prefix_char}
use Rattle.vortex_expressions.proofs.Answered.{no_dollar, behind_dollar}
use Rattle.vortex_expressions.proofs.spelled.name_in.Goals as goal

pub returns-in-None : goal.returns-in-None
returns-in-None c =
    no_dollar c.args.text.now
    (strip_prefix_char 36 c.args.text.now None c.in-None.ensures.cases (lit< tt))

pub returns-in-Some : goal.returns-in-Some
returns-in-Some c =
    behind_dollar c.args.text.now c.in-Some.rest.now c.strip_prefix-in-Some.result
    (strip_prefix_char 36 c.args.text.now (Some c.in-Some.rest) c.in-Some.ensures.cases
    (lit< tt))
    (strip_prefix_char 46 c.in-Some.rest.now c.strip_prefix-in-Some.result
    c.strip_prefix-in-Some.ensures.cases (lit< tt))
