use Rattle.std.proofs.Common.{◌≡◌, ◌+◌, ◌-◌, FitsSigned, w16, arith, rules, to_z-of_z}
use Rattle.jiff_core.specs.Calendar.{days_of_months}
use Rattle.jiff_core.proofs.CalendarLemmas.{days_of_months_mono}
use Rattle.vortex_sql_dates.proofs.calendar.days_since.Goals as goal

pub overflow_sub-result : goal.overflow_sub-result
overflow_sub-result c =
    let y = c.args.date.year in
    let fits : FitsSigned w16 y = search rules in
    let here : c.day_of_year.result ≡ days_of_months y (c.args.date.month - 1) + c.args.date.day =
    c.day_of_year.ensures.value in
    let first : c.day_of_year-2.result ≡ days_of_months y (c.args.month - 1) + 1 =
    simp to_z-of_z at c.day_of_year-2.ensures.value in
    let months = days_of_months_mono y (c.args.month - 1) (c.args.date.month - 1) (omega (arith, c.requires)) in
    omega (arith, months, here, first, c.args.date.day_in.0)
