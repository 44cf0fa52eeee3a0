use Rattle.std.proofs.Common.{Bool, map, cond, Some, None, sym, ap, ◌∙◌}
use Rattle.vortex_syntax.specs.Tokens.{token_in}
use Rattle.vortex_syntax.proofs.AnswerNames.{no_token, one_token, two_tokens}
use Rattle.vortex_syntax.proofs.answer_list.split_name.Goals as goal

pub returns-in_default : goal.returns-in_default
returns-in_default c = no_token token_in c.args.tokens.now c.in_default.ensures.cases

pub returns-in_default-split_last : goal.returns-in_default-split_last
returns-in_default-split_last c =
    one_token token_in c.args.tokens.now c.in-Some.front.now c.in-Some.name.now
    c.in-Some.ensures.cases.0 c.in_default-split_last.ensures.cases

pub returns-then-is_naming : goal.returns-then-is_naming
returns-then-is_naming c =
    sym (two_tokens token_in c.args.tokens.now c.in-Some.front.now c.in-Some-split_last.tree.now
    c.in-Some.name.now c.in-Some-split_last.word.now c.in-Some.ensures.cases.0
    c.in-Some-split_last.ensures.cases.0
    ∙ ap (λ (b : Bool). cond b
    (Some (map token_in c.in-Some-split_last.tree.now, token_in c.in-Some.name.now)) None)
    (sym c.is_naming.ensures ∙ c.if-is_naming.true))

pub returns-else-is_naming : goal.returns-else-is_naming
returns-else-is_naming c =
    sym (two_tokens token_in c.args.tokens.now c.in-Some.front.now c.in-Some-split_last.tree.now
    c.in-Some.name.now c.in-Some-split_last.word.now c.in-Some.ensures.cases.0
    c.in-Some-split_last.ensures.cases.0
    ∙ ap (λ (b : Bool). cond b
    (Some (map token_in c.in-Some-split_last.tree.now, token_in c.in-Some.name.now)) None)
    (sym c.is_naming.ensures ∙ c.if-is_naming.false))
