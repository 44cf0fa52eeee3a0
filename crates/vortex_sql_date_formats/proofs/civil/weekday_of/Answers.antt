use Rattle.std.proofs.Common.{arith}
use Rattle.jiff_core.proofs.SignedLemmas.{signed_casts}
use Rattle.jiff_core.proofs.CalendarLemmas.{weekday_number-parts}
use Rattle.vortex_sql_date_formats.proofs.civil.weekday_of.Goals as goal

pub returns-clause-value : goal.returns-clause-value
returns-clause-value c = omega (arith, signed_casts, weekday_number-parts c.args.day)
