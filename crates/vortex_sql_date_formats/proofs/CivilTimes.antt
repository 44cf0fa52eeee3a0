-- A date, the Thursday of its week and a time of its day as the parts that are written.
use Rattle.std.proofs.Common.{◌≡◌, ◌∙◌, ◌+◌, ◌/◌, ℕ, ℤ, sym}
use Rattle.std.specs.Prelude.{unsigned_abs}
use Rattle.jiff_core.specs.Calendar.{day_of_year, weekday_number}
use Rattle.jiff_core.specs.Date.{epoch_day}
use Rattle.jiff_core.specs.declared.civil.date.Date.{Date}
use Rattle.vortex_sql_dates.specs.CalendarLaws.{calendar_agrees}
use Rattle.vortex_sql_dates.specs.CountedDays.{cycle_date, year_of}
use Rattle.vortex_sql_dates.specs.Parts.{thursday}
use Rattle.vortex_sql_date_formats.specs.declared.civil.CivilTime.{CivilTime}
use Rattle.vortex_sql_date_formats.specs.CivilTimes.{civil_time, year_day}

abbrev pub of_dates : Date → Date → ℤ → ℕ → CivilTime
of_dates d h z t = record {
  year = unsigned_abs d.year;
  month = d.month;
  day = d.day;
  ordinal = day_of_year d.year d.month d.day;
  weekday = weekday_number z;
  iso_week = (day_of_year h.year h.month h.day + 6) / 7;
  iso_year = unsigned_abs h.year;
  time = t;
}

pub civil_is : (d h : Date) (z : ℤ) (t : ℕ) → epoch_day d ≡ z → epoch_day h ≡ thursday z
    → of_dates d h z t ≡ civil_time z t
unfolding civil_time
civil_is d h z t e g =
    let same = calendar_agrees d in
    let week = calendar_agrees h in
    (λ i. record {
      year = unsigned_abs (sym same.0 i);
      month = sym same.1 i;
      day = sym same.2 i;
      ordinal = day_of_year (sym same.0 i) (sym same.1 i) (sym same.2 i);
      weekday = weekday_number z;
      iso_week = (day_of_year (sym week.0 i) (sym week.1 i) (sym week.2 i) + 6) / 7;
      iso_year = unsigned_abs (sym week.0 i);
      time = t;
    })
    ∙ (λ i. record {
      year = unsigned_abs (year_of (e i));
      month = (cycle_date (e i)).month;
      day = (cycle_date (e i)).day;
      ordinal = year_day (e i);
      weekday = weekday_number z;
      iso_week = (year_day (g i) + 6) / 7;
      iso_year = unsigned_abs (year_of (g i));
      time = t;
    })
