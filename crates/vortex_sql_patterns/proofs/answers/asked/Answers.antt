use Rattle.std.proofs.Common.{sym, subst}
use Rattle.regex.specs.Strings.{matcher_pattern}
use Rattle.vortex_sql_rows.specs.AnsweredRows.{AnswersRow}
use Rattle.vortex_sql_patterns.specs.PatternFunctions.{asked}
use Rattle.vortex_sql_patterns.proofs.answers.asked.Goals as goal

pub returns-in-Part-clause-value : goal.returns-in-Part-clause-value
returns-in-Part-clause-value c =
    let bs = c.args.text.now in
    let re = matcher_pattern c.args.matcher.now in
    let made = c.group_part.result in
    subst (λ f. AnswersRow (asked f c.args.group.number bs re) made) (sym c.in-Part.is)
    c.group_part.ensures.value
