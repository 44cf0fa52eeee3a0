use Rattle.std.proofs.Common.{◌≡◌, ◌∙◌, ◌+◌, ◌/◌, FitsSigned, ap, arith, to_z-of_z, w64}
use Rattle.jiff_core.specs.Calendar.{weekday_number}
use Rattle.jiff_core.specs.Date.{epoch_day}
use Rattle.jiff_core.proofs.SignedLemmas.{signed_arith, signed_casts}
use Rattle.vortex_sql_dates.specs.Parts.{thursday}
use Rattle.vortex_sql_date_formats.proofs.CivilTimes.{civil_is}
use Rattle.vortex_sql_date_formats.proofs.civil.civil_time.Goals as goal

pub returns : goal.returns
returns c =
    let z = c.args.day in
    let date = c.date_at-date.result in
    let week = c.date_at-thursday.result in
    let fits : FitsSigned w64 z = omega (arith, signed_arith, c.requires) in
    let day : epoch_day date ≡ z = omega (arith, signed_casts, c.date_at-date.ensures, c.requires) in
    let number : c.thursday.result ≡ thursday z = c.thursday.ensures.value ∙ ap thursday (to_z-of_z fits) in
    let middle : epoch_day week ≡ thursday z =
    omega (arith, signed_casts, c.date_at-thursday.ensures, number, c.thursday.ensures.range) in
    let weekday = c.weekday_of.ensures.value ∙ ap weekday_number (to_z-of_z fits) in
    (λ i. record {
      year = c.year_number.ensures i;
      month = date.month;
      day = date.day;
      ordinal = c.day_of_year.ensures.value i;
      weekday = weekday i;
      iso_week = (c.day_of_year-2.ensures.value i + 6) / 7;
      iso_year = c.year_number-2.ensures i;
      time = c.args.time;
    })
    ∙ civil_is date week z c.args.time day middle
