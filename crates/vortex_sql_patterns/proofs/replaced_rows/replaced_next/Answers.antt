use Rattle.std.proofs.Common.{ap, false, map, subst, sym, ◌∙◌}
use Rattle.regex.specs.Strings.{matcher_pattern}
use Rattle.vortex_columns.specs.Cells.{cell_value}
use Rattle.vortex_sql_rows.specs.AnsweredRows.{MakesRow}
use Rattle.vortex_sql_patterns.specs.Patterns.{IsPatternOf}
use Rattle.vortex_sql_patterns.specs.RegexpReplace.{asked_by, in_case, with_flags}
use Rattle.vortex_sql_patterns.proofs.ReplacedRows.{of_flags}
use Rattle.vortex_sql_patterns.proofs.replaced_rows.replaced_next.Goals as goal

pub returns-then-is_alike-clause-value : goal.returns-then-is_alike-clause-value
returns-then-is_alike-clause-value c =
    let next = c.in-Some.next in
    let x = c.args.flags in
    let same = c.is_alike.ensures c.if-is_alike.true in
    let row = of_flags (map cell_value c.args.cells.now) (asked_by next) x (sym c.in-Some.ensures)
    (ap (with_flags (false, false)) (sym same.0) ∙ c.requires.flags) in
    subst (λ o. MakesRow o c.replaced_by.result) (sym row)
    (c.replaced_by.ensures.value (in_case x.1 next.pattern.now)
    (subst (λ ps. IsPatternOf (in_case x.1 ps) (matcher_pattern c.args.matcher.now)) same.1
    c.requires.compiled))
