use Rattle.std.proofs.Common.{ap, sym, subst, ◌∙◌}
use Rattle.std.specs.Prelude.{option_and_then}
use Rattle.vortex_sql_rows.specs.AnsweredRows.{AnswersRow}
use Rattle.vortex_sql_patterns.specs.PatternFunctions.{part, spanned}
use Rattle.vortex_sql_patterns.proofs.Groups.{span_by_is}
use Rattle.vortex_sql_patterns.proofs.answers.group_part.Goals as goal

pub returns-clause-value : goal.returns-clause-value
returns-clause-value c =
    let bs = c.args.text.now in
    let n = c.args.group.number in
    let m = c.in-Some.ensures.found.0 in
    subst (λ o. AnswersRow (part bs o) c.found_part.result)
    (c.group_in.ensures.found ∙ span_by_is bs m c.in-Some.groups c.in-Some.ensures.found.2 n
    ∙ sym (ap (option_and_then (spanned n)) c.in-Some.ensures.found.1))
    c.found_part.ensures
