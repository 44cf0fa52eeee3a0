use Rattle.std.proofs.Common.{arith}
use Rattle.std.proofs.lemmas.Fmt.{decimal_digit, decimal_step}
use Rattle.std.proofs.lemmas.Grind.{common_steps}
use Rattle.vortex_sql_date_formats.proofs.written.+push_decimal.Goals as goal

pub returns-then-number-lt10 : goal.returns-then-number-lt10
returns-then-number-lt10 t c =
    grind (arith, common_steps, decimal_digit c.args.number c.if-number-lt10.true)

pub returns : goal.returns
returns t c =
    grind (arith, common_steps, decimal_step c.args.number (omega (arith, c.if-number-lt10.false)))
