-- Each part has 64 bits.
use Rattle.std.specs.Prelude.{◌≡◌, ◌<◌, ◌≤◌, get_or, ℕ, ℤ, pos, refl, ◌-ℤ◌, Bool, true, false}
use Rattle.std.specs.Prelude.{int_lt}
use Rattle.std.proofs.Common.{arith, cond}
use Rattle.jiff_core.specs.Calendar.{IsWithin}
use Rattle.jiff_core.proofs.CalendarLemmas.{days_in_month_bounds, weekday_number_bound}
use Rattle.jiff_core.proofs.SignedLemmas.{signed_arith, int_div_euclid-parts, int_rem_euclid-parts}
use Rattle.vortex_types.specs.declared.dtype.PType.TheVariants.{I32, I64}
use Rattle.vortex_types.specs.Typing.{FitsPType}
use Rattle.vortex_sql_rows.specs.Row.{LawfulRow}
use Rattle.vortex_sql_dates.specs.declared.parts.Part.{Part}
use Rattle.vortex_sql_dates.specs.declared.parts.Part.TheVariants as part
use Rattle.vortex_sql_dates.specs.CountedDays.{cycle_date, year_of}
use Rattle.vortex_sql_dates.specs.CountedLaws.{in_calendar, ordinal_small, year_small}
use Rattle.vortex_sql_dates.specs.Instants.{day_of, time_of}
use Rattle.vortex_sql_dates.specs.Parts.{part_of, date_part, date_part_id, date_part_row, thursday}
use Rattle.vortex_sql_dates.specs.Parts.{timestamp_part, timestamp_part_id, timestamp_part_row}
use Rattle.vortex_sql_dates.specs.Parts.{written_year}
use Rattle.vortex_sql_dates.specs.StoredRows.{settled_lawful}

small_fits : (n : ℕ) → n ≤ 1_000_000_000_000 → FitsPType I64 (pos n)
small_fits n h = (omega (arith, signed_arith), omega (arith, signed_arith, h))

written_fits : (y : ℤ) → IsWithin 10_000_000 y → FitsPType I64 (written_year y)
written_fits y h = by (int_lt (pos 0) y)
  where
    by : (b : Bool) → FitsPType I64 (cond b y (y -ℤ pos 1))
    by true = (omega (arith, signed_arith, h.0), omega (arith, signed_arith, h.1))
    by false = (omega (arith, signed_arith, h.0), omega (arith, signed_arith, h.1))

pub part_fits : (p : Part) (z : ℤ) (t : ℕ) → IsWithin 2_500_000_000 z → t < 86_400_000_000
    → FitsPType I64 (part_of p z t)
part_fits part.Year z t h k =
    written_fits (year_of z) (year_small z (omega (arith, signed_arith, h.0), omega (arith, signed_arith, h.1)))
part_fits part.Quarter z t h k = small_fits _ (omega (arith, (in_calendar z).1.1))
part_fits part.Month z t h k = small_fits _ (omega (arith, (in_calendar z).1.1))
part_fits part.Week z t h k = small_fits _ (omega (arith, ordinal_small (thursday z)))
part_fits part.Day z t h k =
    small_fits _ (omega (arith, (in_calendar z).2.1, days_in_month_bounds (cycle_date z).year (cycle_date z).month))
part_fits part.DayOfWeek z t h k = small_fits _ (omega (arith, weekday_number_bound z))
part_fits part.IsoDayOfWeek z t h k = small_fits _ (omega (arith, weekday_number_bound z))
part_fits part.DayOfYear z t h k = small_fits _ (omega (arith, ordinal_small z))
part_fits part.Epoch z t h k =
    (omega (arith, signed_arith, h.0, k), omega (arith, signed_arith, h.1, k))
part_fits part.Hour z t h k = small_fits _ (omega (arith, k))
part_fits part.Minute z t h k = small_fits _ (omega (arith, k))
part_fits part.Second z t h k = small_fits _ (omega (arith, k))
part_fits part.Millisecond z t h k = small_fits _ (omega (arith, k))
part_fits part.Microsecond z t h k = small_fits _ (omega (arith, k))

date_named : (p : Part) → get_or (date_part_id p) 0 0 ≡ 115
date_named part.Year = refl
date_named part.Quarter = refl
date_named part.Month = refl
date_named part.Week = refl
date_named part.Day = refl
date_named part.DayOfWeek = refl
date_named part.IsoDayOfWeek = refl
date_named part.DayOfYear = refl
date_named part.Epoch = refl
date_named part.Hour = refl
date_named part.Minute = refl
date_named part.Second = refl
date_named part.Millisecond = refl
date_named part.Microsecond = refl

timestamp_named : (p : Part) → get_or (timestamp_part_id p) 0 0 ≡ 115
timestamp_named part.Year = refl
timestamp_named part.Quarter = refl
timestamp_named part.Month = refl
timestamp_named part.Week = refl
timestamp_named part.Day = refl
timestamp_named part.DayOfWeek = refl
timestamp_named part.IsoDayOfWeek = refl
timestamp_named part.DayOfYear = refl
timestamp_named part.Epoch = refl
timestamp_named part.Hour = refl
timestamp_named part.Minute = refl
timestamp_named part.Second = refl
timestamp_named part.Millisecond = refl
timestamp_named part.Microsecond = refl

pub date_part_lawful : (p : Part) → LawfulRow (date_part_row p)
date_part_lawful p =
    settled_lawful (date_part_id p) I32 I64 (date_named p) (date_part p)
    (λ z h. part_fits p z 0 (omega (arith, signed_arith, h.0), omega (arith, signed_arith, h.1)) (omega arith))
    (λ z h. tt)

pub day_within : (z : ℤ) → FitsPType I64 z → IsWithin 2_500_000_000 (day_of z)
day_within z h =
    let parts = int_div_euclid-parts z 86_400_000_000 (omega arith) in
    (omega (arith, signed_arith, parts, h.0), omega (arith, signed_arith, parts, h.1))

pub time_within : (z : ℤ) → time_of z < 86_400_000_000
time_within z = omega (arith, signed_arith, int_rem_euclid-parts z 86_400_000_000 (omega arith))

pub timestamp_part_lawful : (p : Part) → LawfulRow (timestamp_part_row p)
timestamp_part_lawful p =
    settled_lawful (timestamp_part_id p) I64 I64 (timestamp_named p) (timestamp_part p)
    (λ z h. part_fits p (day_of z) (time_of z) (day_within z h) (time_within z)) (λ z h. tt)
