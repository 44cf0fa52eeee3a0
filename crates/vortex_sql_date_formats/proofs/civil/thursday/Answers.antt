use Rattle.std.proofs.Common.{◌≡◌, ◌∙◌, FitsSigned, ap, arith, to_z-of_z, w64}
use Rattle.jiff_core.specs.Calendar.{weekday_number}
use Rattle.jiff_core.proofs.SignedLemmas.{signed_arith, signed_casts}
use Rattle.jiff_core.proofs.CalendarLemmas.{weekday_number-parts}
use Rattle.vortex_sql_date_formats.proofs.civil.thursday.Goals as goal

pub returns-clause-range : goal.returns-clause-range
returns-clause-range c =
    let fits : FitsSigned w64 c.args.day = omega (arith, signed_arith, c.requires) in
    let days : c.weekday_of.result ≡ weekday_number c.args.day =
    c.weekday_of.ensures.value ∙ ap weekday_number (to_z-of_z fits) in (
      omega (arith, signed_casts, days, weekday_number-parts c.args.day, c.requires),
      omega (arith, signed_casts, days, weekday_number-parts c.args.day, c.requires),
    )
