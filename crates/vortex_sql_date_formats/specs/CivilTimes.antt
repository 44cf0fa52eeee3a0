-- Days of the calendar, and times of them, by their numbers.
use Rattle.std.specs.Prelude.{◌+◌, ◌/◌, ℕ, ℤ, unsigned_abs}
use Rattle.jiff_core.specs.Calendar.{day_of_year, weekday_number}
use Rattle.vortex_sql_dates.specs.CountedDays.{cycle_date, year_of}
use Rattle.vortex_sql_dates.specs.Parts.{thursday}
use Rattle.vortex_sql_date_formats.specs.declared.civil.CivilTime.{CivilTime}

-- the place of a day in its year
abbrev pub year_day : ℤ → ℕ
year_day z = day_of_year (year_of z) (cycle_date z).month (cycle_date z).day

-- the day with that number, and a time of that day; a week is in the year of its Thursday
unfoldable pub civil_time : ℤ → ℕ → CivilTime
civil_time z t = record {
  year = unsigned_abs (year_of z);
  month = (cycle_date z).month;
  day = (cycle_date z).day;
  ordinal = year_day z;
  weekday = weekday_number z;
  iso_week = (year_day (thursday z) + 6) / 7;
  iso_year = unsigned_abs (year_of (thursday z));
  time = t;
}
