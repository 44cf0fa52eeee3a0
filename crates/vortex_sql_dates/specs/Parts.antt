-- Parts of a date or a timestamp, as PostgreSQL has them, but that seconds are whole.
use Rattle.std.specs.Prelude.{codes, ℕ, ℤ, pos, ◌+◌, ◌/◌, ◌%◌, ◌+ℤ◌, ◌-ℤ◌, ◌*ℤ◌, List}
use Rattle.std.specs.Prelude.{int_lt, if◌then◌else◌, true}
use Rattle.jiff_core.specs.Calendar.{weekday_number}
use Rattle.vortex_types.specs.declared.dtype.PType.TheVariants.{I32, I64}
use Rattle.vortex_types.specs.Values.{number}
use Rattle.vortex_interface.specs.Outcomes.{Outcome, gives}
use Rattle.vortex_sql_rows.specs.Row.{Row}
use Rattle.vortex_sql_dates.specs.declared.parts.Part.{Part}
use Rattle.vortex_sql_dates.specs.declared.parts.Part.TheVariants as part
use Rattle.vortex_sql_dates.specs.CountedDays.{cycle_date, ordinal_of, year_of}
use Rattle.vortex_sql_dates.specs.Instants.{day_of, time_of}
use Rattle.vortex_sql_dates.specs.StoredRows.{stored_row}

-- no year is 0: the one before 1 is -1
abbrev pub written_year : ℤ → ℤ
written_year y = if int_lt (pos 0) y then y else y -ℤ pos 1

-- the Thursday of the day's week, which begins on Monday
abbrev pub thursday : ℤ → ℤ
thursday z = z +ℤ pos 3 -ℤ pos (weekday_number z)

-- the weeks of a year are those whose Thursday it has
abbrev pub week_of : ℤ → ℤ
week_of z = pos ((ordinal_of (thursday z) + 6) / 7)

-- of the day with the number z, in which t microseconds have passed
abbrev pub part_of : Part → ℤ → ℕ → ℤ
part_of part.Year z t = written_year (year_of z)
part_of part.Quarter z t = pos (((cycle_date z).month + 2) / 3)
part_of part.Month z t = pos (cycle_date z).month
part_of part.Week z t = week_of z
part_of part.Day z t = pos (cycle_date z).day
part_of part.DayOfWeek z t = pos ((weekday_number z + 1) % 7)
part_of part.IsoDayOfWeek z t = pos (weekday_number z + 1)
part_of part.DayOfYear z t = pos (ordinal_of z)
part_of part.Epoch z t = z *ℤ pos 86_400 +ℤ pos (t / 1_000_000)
part_of part.Hour z t = pos (t / 3_600_000_000)
part_of part.Minute z t = pos (t / 60_000_000 % 60)
part_of part.Second z t = pos (t / 1_000_000 % 60)
part_of part.Millisecond z t = pos (t % 60_000_000 / 1_000)
part_of part.Microsecond z t = pos (t % 60_000_000)

-- a date is the beginning of its day
abbrev pub date_part : Part → ℤ → Outcome
date_part p z = gives (number (part_of p z 0))

abbrev pub timestamp_part : Part → ℤ → Outcome
timestamp_part p z = gives (number (part_of p (day_of z) (time_of z)))

abbrev pub date_part_id : Part → List ℕ
date_part_id part.Year = codes "sql.date_year"
date_part_id part.Quarter = codes "sql.date_quarter"
date_part_id part.Month = codes "sql.date_month"
date_part_id part.Week = codes "sql.date_week"
date_part_id part.Day = codes "sql.date_day"
date_part_id part.DayOfWeek = codes "sql.date_dow"
date_part_id part.IsoDayOfWeek = codes "sql.date_isodow"
date_part_id part.DayOfYear = codes "sql.date_doy"
date_part_id part.Epoch = codes "sql.date_epoch"
date_part_id part.Hour = codes "sql.date_hour"
date_part_id part.Minute = codes "sql.date_minute"
date_part_id part.Second = codes "sql.date_second"
date_part_id part.Millisecond = codes "sql.date_millisecond"
date_part_id part.Microsecond = codes "sql.date_microsecond"

abbrev pub timestamp_part_id : Part → List ℕ
timestamp_part_id part.Year = codes "sql.timestamp_year"
timestamp_part_id part.Quarter = codes "sql.timestamp_quarter"
timestamp_part_id part.Month = codes "sql.timestamp_month"
timestamp_part_id part.Week = codes "sql.timestamp_week"
timestamp_part_id part.Day = codes "sql.timestamp_day"
timestamp_part_id part.DayOfWeek = codes "sql.timestamp_dow"
timestamp_part_id part.IsoDayOfWeek = codes "sql.timestamp_isodow"
timestamp_part_id part.DayOfYear = codes "sql.timestamp_doy"
timestamp_part_id part.Epoch = codes "sql.timestamp_epoch"
timestamp_part_id part.Hour = codes "sql.timestamp_hour"
timestamp_part_id part.Minute = codes "sql.timestamp_minute"
timestamp_part_id part.Second = codes "sql.timestamp_second"
timestamp_part_id part.Millisecond = codes "sql.timestamp_millisecond"
timestamp_part_id part.Microsecond = codes "sql.timestamp_microsecond"

abbrev pub date_part_row : Part → Row
date_part_row p = stored_row (date_part_id p) I32 I64 true (date_part p)

abbrev pub timestamp_part_row : Part → Row
timestamp_part_row p = stored_row (timestamp_part_id p) I64 I64 true (timestamp_part p)
