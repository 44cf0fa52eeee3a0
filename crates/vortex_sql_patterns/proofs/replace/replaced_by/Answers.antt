use Rattle.std.proofs.Common.{sym, subst}
use Rattle.regex.specs.Strings.{matcher_pattern}
use Rattle.vortex_sql_rows.specs.AnsweredRows.{MakesRow}
use Rattle.vortex_sql_patterns.proofs.Alike.{same_replaced}
use Rattle.vortex_sql_patterns.proofs.replace.replaced_by.Goals as goal

pub returns-clause-value : goal.returns-clause-value
returns-clause-value c ps h =
    subst (λ o. MakesRow o c.text_or_fault.result)
    (sym (same_replaced c.args.all c.args.text.now c.args.other.now ps
    (matcher_pattern c.args.matcher.now) h (λ k. (c.type_inv.text k).fits)))
    (rw c.in_ok-made.ensures.value at c.text_or_fault.ensures)
