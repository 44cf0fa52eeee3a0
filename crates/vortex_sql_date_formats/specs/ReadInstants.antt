-- The day and the time of the fields that are read.
use Rattle.std.specs.Prelude.{◌+◌, ◌*◌, ◌%◌, ◌==◌, ◌&&◌, ℕ, ℤ, pos, Option, Some, None, if◌then◌else◌, nat_le}
use Rattle.std.specs.Prelude.{option_and_then, unwrap_or}
use Rattle.std.specs.Option.{option_map}
use Rattle.jiff_core.specs.Calendar.{days_from_civil}
use Rattle.vortex_logical.specs.DateTexts.{is_civil}
use Rattle.vortex_sql_date_formats.specs.declared.fields.Fields.{Fields}

-- the days since 1970-01-01, if the calendar has the day
abbrev pub civil_day : ℕ → ℕ → ℕ → Option ℤ
civil_day y m d = if is_civil y m d then Some (days_from_civil (pos y) m d) else None

-- the same in the years 1 to 9999
abbrev pub day_number : ℕ → ℕ → ℕ → Option ℤ
day_number y m d = if nat_le 1 y && nat_le y 9999 then civil_day y m d else None

-- the microseconds since midnight, if a day has the time
abbrev pub clock : ℕ → ℕ → ℕ → ℕ → Option ℕ
clock h m s u =
    if nat_le h 23 && nat_le m 59 && nat_le s 59 && nat_le u 999999
    then Some ((h * 3600 + m * 60 + s) * 1000000 + u) else None

-- the first of the year, of the month, of the day, .. for what is not read
abbrev pub day_of : Fields → Option ℤ
day_of f = day_number (unwrap_or f.year 0) (unwrap_or f.month 1) (unwrap_or f.day 1)

-- the hour of the day: 12 is the first hour of a half, and no half is the one before noon
abbrev pub day_hour : ℕ → ℕ → Option ℕ
day_hour h half =
    if nat_le 1 h && nat_le h 12 then Some (h % 12 + (if half == 0 then 0 else 12)) else None

abbrev pub hour_of : Option ℕ → ℕ → ℕ → Option ℕ
hour_of None half h = Some h
hour_of (Some n) half h = day_hour n half

abbrev pub time_of : Fields → Option ℕ
time_of f =
    option_and_then
    (λ h. clock h (unwrap_or f.minute 0) (unwrap_or f.second 0) (unwrap_or f.micros 0))
    (hour_of f.half_hour (unwrap_or f.half 0) (unwrap_or f.hour 0))

abbrev pub instant_of : Fields → Option (ℤ × ℕ)
instant_of f = option_and_then (λ d. option_map (λ t. (d, t)) (time_of f)) (day_of f)
