use Rattle.std.proofs.Common.{◌≡◌, ap, sym, subst, ◌∙◌}
use Rattle.regex.specs.Strings.{matcher_pattern}
use Rattle.vortex_sql_rows.specs.AnsweredRows.{AnswersRow}
use Rattle.vortex_sql_patterns.specs.Patterns.{pattern_in}
use Rattle.vortex_sql_patterns.specs.PatternFunctions.{answered, first_group, read_by, IsReadBy}
use Rattle.vortex_sql_patterns.specs.Lookups.{answer_for, function_of}
use Rattle.vortex_sql_patterns.specs.declared.functions.PatternFunction.TheVariants.{Part}
use Rattle.vortex_sql_patterns.proofs.SameMatches.{same_answer}
use Rattle.vortex_sql_patterns.proofs.answers.answer.Goals as goal

pub returns-in-Function-clause-value : goal.returns-in-Function-clause-value
returns-in-Function-clause-value c ps =
    let f = c.in-Function.function in
    let bs = c.args.text.now in
    let re = matcher_pattern c.args.matcher.now in
    subst (λ w. IsReadBy (function_of w) ps re → c.args.first.number ≡ first_group (function_of w) ps
    → AnswersRow (answer_for w bs ps c.args.number.number) c.asked.result) (sym c.in-Function.is)
    (λ h first.
    subst (λ o. AnswersRow o c.asked.result)
    (sym (same_answer f c.args.first.number bs ps re h (λ k. (c.type_inv.text k).fits))
    ∙ ap (λ n. answered f n bs (pattern_in (read_by f ps))) first)
    c.asked.ensures.value)

pub returns-in-Group-clause-value : goal.returns-in-Group-clause-value
returns-in-Group-clause-value c ps =
    let bs = c.args.text.now in
    let re = matcher_pattern c.args.matcher.now in
    let made = c.asked-in-Group.result in
    subst (λ w. IsReadBy (function_of w) ps re → c.args.first.number ≡ first_group (function_of w) ps
    → AnswersRow (answer_for w bs ps c.args.number.number) made) (sym c.in-Group.is)
    (λ h first.
    subst (λ o. AnswersRow o made)
    (sym (same_answer Part c.args.number.number bs ps re h (λ k. (c.type_inv.text k).fits)))
    c.asked-in-Group.ensures.value)
