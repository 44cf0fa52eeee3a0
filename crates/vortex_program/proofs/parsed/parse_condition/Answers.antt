use Rattle.std.proofs.Common.{sym, subst}
use Rattle.vortex_syntax.specs.Grammar.{Reads}
use Rattle.vortex_expressions.specs.Reading.{UnreadBy}
use Rattle.vortex_program.proofs.parsed.parse_condition.Goals as goal

pub returns-in-Err-clause-only : goal.returns-in-Err-clause-only
returns-in-Err-clause-only c = λ tree read.
    subst (λ e. UnreadBy e c.of_syntax.result)
    (c.in-Err.ensures.only tree
    (subst (λ w. Reads w tree) (sym c.as_bytes.ensures.value) read))
    c.of_syntax.ensures
