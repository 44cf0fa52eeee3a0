-- Where the year, the month, the hour, .. of a date or a timestamp begins, as PostgreSQL's
-- `date_trunc` has it; a fault where the type does not have that.
use Rattle.std.specs.Prelude.{◌≡◌, codes, get_or, ℕ, ℤ, pos, ◌+◌, ◌-◌, ◌*◌, ◌/◌, ◌%◌, ◌+ℤ◌, ◌-ℤ◌}
use Rattle.std.specs.Prelude.{◌*ℤ◌, List, false, refl}
use Rattle.jiff_core.specs.Calendar.{weekday_number}
use Rattle.vortex_types.specs.declared.dtype.PType.TheVariants.{I32, I64}
use Rattle.vortex_interface.specs.Outcomes.{Outcome}
use Rattle.vortex_sql_rows.specs.declared.faults.RowFault.TheVariants.{IntegerOutOfRange}
use Rattle.vortex_sql_rows.specs.Integers.{checked, checked_fits, int_or_fault}
use Rattle.vortex_sql_rows.specs.Row.{Row, LawfulRow}
use Rattle.vortex_sql_dates.specs.declared.truncations.Unit.{Unit}
use Rattle.vortex_sql_dates.specs.declared.truncations.Unit.TheVariants as unit
use Rattle.vortex_sql_dates.specs.CountedDays.{cycle_date, days_since}
use Rattle.vortex_sql_dates.specs.Instants.{day_of, time_of}
use Rattle.vortex_sql_dates.specs.StoredRows.{stored_row, stored_lawful}

-- the month that begins a month's quarter
abbrev pub quarter_month : ℕ → ℕ
quarter_month m = (m - 1) / 3 * 3 + 1

-- how many days of the unit lie before a day: of its year, its quarter, its month or its week
abbrev pub days_before : Unit → ℤ → ℕ
days_before unit.Year z = days_since (cycle_date z) 1
days_before unit.Quarter z = days_since (cycle_date z) (quarter_month (cycle_date z).month)
days_before unit.Month z = days_since (cycle_date z) (cycle_date z).month
days_before unit.Week z = weekday_number z
days_before u z = 0

abbrev pub first_day : Unit → ℤ → ℤ
first_day u z = z -ℤ pos (days_before u z)

-- the time of the day at which the unit of a time begins, in microseconds
abbrev pub first_time : Unit → ℕ → ℕ
first_time unit.Hour t = t - t % 3_600_000_000
first_time unit.Minute t = t - t % 60_000_000
first_time unit.Second t = t - t % 1_000_000
first_time u t = 0

abbrev pub first_instant : Unit → ℤ → ℤ
first_instant u z =
    first_day u (day_of z) *ℤ pos 86_400_000_000 +ℤ pos (first_time u (time_of z))

abbrev pub date_trunc : Unit → ℤ → Outcome
date_trunc u z = int_or_fault IntegerOutOfRange (checked I32 (first_day u z))

abbrev pub timestamp_trunc : Unit → ℤ → Outcome
timestamp_trunc u z = int_or_fault IntegerOutOfRange (checked I64 (first_instant u z))

abbrev pub date_trunc_id : Unit → List ℕ
date_trunc_id unit.Year = codes "sql.date_trunc_year"
date_trunc_id unit.Quarter = codes "sql.date_trunc_quarter"
date_trunc_id unit.Month = codes "sql.date_trunc_month"
date_trunc_id unit.Week = codes "sql.date_trunc_week"
date_trunc_id unit.Day = codes "sql.date_trunc_day"
date_trunc_id unit.Hour = codes "sql.date_trunc_hour"
date_trunc_id unit.Minute = codes "sql.date_trunc_minute"
date_trunc_id unit.Second = codes "sql.date_trunc_second"

abbrev pub timestamp_trunc_id : Unit → List ℕ
timestamp_trunc_id unit.Year = codes "sql.timestamp_trunc_year"
timestamp_trunc_id unit.Quarter = codes "sql.timestamp_trunc_quarter"
timestamp_trunc_id unit.Month = codes "sql.timestamp_trunc_month"
timestamp_trunc_id unit.Week = codes "sql.timestamp_trunc_week"
timestamp_trunc_id unit.Day = codes "sql.timestamp_trunc_day"
timestamp_trunc_id unit.Hour = codes "sql.timestamp_trunc_hour"
timestamp_trunc_id unit.Minute = codes "sql.timestamp_trunc_minute"
timestamp_trunc_id unit.Second = codes "sql.timestamp_trunc_second"

abbrev pub date_trunc_row : Unit → Row
date_trunc_row u = stored_row (date_trunc_id u) I32 I32 false (date_trunc u)

abbrev pub timestamp_trunc_row : Unit → Row
timestamp_trunc_row u = stored_row (timestamp_trunc_id u) I64 I64 false (timestamp_trunc u)

date_named : (u : Unit) → get_or (date_trunc_id u) 0 0 ≡ 115
date_named unit.Year = refl
date_named unit.Quarter = refl
date_named unit.Month = refl
date_named unit.Week = refl
date_named unit.Day = refl
date_named unit.Hour = refl
date_named unit.Minute = refl
date_named unit.Second = refl

timestamp_named : (u : Unit) → get_or (timestamp_trunc_id u) 0 0 ≡ 115
timestamp_named unit.Year = refl
timestamp_named unit.Quarter = refl
timestamp_named unit.Month = refl
timestamp_named unit.Week = refl
timestamp_named unit.Day = refl
timestamp_named unit.Hour = refl
timestamp_named unit.Minute = refl
timestamp_named unit.Second = refl

pub date_trunc_lawful : (u : Unit) → LawfulRow (date_trunc_row u)
date_trunc_lawful u =
    stored_lawful (date_trunc_id u) I32 I32 (date_named u) (date_trunc u)
    (λ z h. checked_fits IntegerOutOfRange I32 (first_day u z))

pub timestamp_trunc_lawful : (u : Unit) → LawfulRow (timestamp_trunc_row u)
timestamp_trunc_lawful u =
    stored_lawful (timestamp_trunc_id u) I64 I64 (timestamp_named u) (timestamp_trunc u)
    (λ z h. checked_fits IntegerOutOfRange I64 (first_instant u z))
