-- The Gregorian calendar for any number of days before or after 1 January 1970. `jiff_core` has the
-- years -9999 to 9999, and there this calendar is that one: `CalendarLaws.antt`.
use Rattle.std.specs.Prelude.{ℕ, zero, suc, ◌+◌, ◌-◌, ℤ, pos, ◌+ℤ◌, ◌*ℤ◌, unsigned_abs, nat_lt}
use Rattle.std.specs.Prelude.{if◌then◌else◌}
use Rattle.std.specs.Int.{int_div_euclid, int_rem_euclid}
use Rattle.jiff_core.specs.Calendar.{days_in_month, day_of_year}
use Rattle.jiff_core.specs.declared.civil.date.Date.{Date}

pub record CivilDate : Type 0 where
  pub year : ℤ
  pub month : ℕ
  pub day : ℕ

-- year, month and day of a date
abbrev pub civil_date : Date → CivilDate
civil_date d = record { year = d.year; month = d.month; day = d.day }

abbrev pub next_day : CivilDate → CivilDate
next_day d =
    if nat_lt d.day (days_in_month d.year d.month)
    then record { year = d.year; month = d.month; day = d.day + 1 }
    else if nat_lt d.month 12 then record { year = d.year; month = d.month + 1; day = 1 }
    else record { year = d.year +ℤ pos 1; month = 1; day = 1 }

-- the day that many days after 1 January 1970
unfoldable pub day_after : ℕ → CivilDate
day_after zero = record { year = pos 1970; month = 1; day = 1 }
day_after (suc n) = next_day (day_after n)

-- Four hundred years have 146,097 days, and after them the calendar repeats itself: how many times
-- those have passed, and the day that stands for this one in those that begin in 1970
abbrev pub cycle_of : ℤ → ℤ
cycle_of z = int_div_euclid z (pos 146_097)

abbrev pub cycle_date : ℤ → CivilDate
cycle_date z = day_after (unsigned_abs (int_rem_euclid z (pos 146_097)))

-- the year, where the one before 1 is 0
abbrev pub year_of : ℤ → ℤ
year_of z = (cycle_date z).year +ℤ cycle_of z *ℤ pos 400

-- the place in the year, from 1
abbrev pub ordinal : CivilDate → ℕ
ordinal d = day_of_year d.year d.month d.day

abbrev pub ordinal_of : ℤ → ℕ
ordinal_of z = ordinal (cycle_date z)

-- the days since the first of a month of the same year
abbrev pub days_since : CivilDate → ℕ → ℕ
days_since d m = ordinal d - day_of_year d.year m 1
