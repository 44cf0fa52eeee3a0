-- The day that lies so many months after a day: the same day of that month, or its last day if it
-- has fewer.
use Rattle.std.specs.Prelude.{◌≡◌, ◌≤◌, ◌⊎◌, ◌&&◌, ◌+◌, ◌-◌, ◌+ℤ◌, ◌*ℤ◌, ◌<ℤ◌, ℕ, ℤ, pos, neg_ℤ, min}
use Rattle.std.specs.Prelude.{Bool, true, false, Option, Some, None, if◌then◌else◌, int_le, refl}
use Rattle.std.specs.Prelude.{unsigned_abs}
use Rattle.std.specs.Int.{int_div_euclid, int_rem_euclid}
use Rattle.std.proofs.Common.{arith, cond, inl, inr, subst}
use Rattle.std.proofs.lemmas.Int.{ints}
use Rattle.jiff_core.specs.Calendar.{IsCivilDate, IsEpochDay, IsWithin, IsYear, days_from_civil}
use Rattle.jiff_core.specs.Calendar.{days_in_month}
use Rattle.jiff_core.proofs.CalendarLemmas.{days_in_month_bounds}
use Rattle.jiff_core.proofs.DateLemmas.{epoch_day_range}
use Rattle.jiff_core.proofs.SignedLemmas.{signed_arith, int_div_euclid-parts, int_rem_euclid-parts}
use Rattle.vortex_sql_dates.specs.CountedDays.{cycle_date, year_of}
use Rattle.vortex_sql_dates.specs.CountedLaws.{date_of, in_calendar, year_small}

-- how many months after January of the year 0 the month of a day is
abbrev pub month_number : ℤ → ℤ
month_number z = year_of z *ℤ pos 12 +ℤ pos ((cycle_date z).month - 1)

-- its year, and its month in the year
abbrev pub month_year : ℤ → ℤ
month_year m = int_div_euclid m (pos 12)

abbrev pub month_in_year : ℤ → ℕ
month_in_year m = unsigned_abs (int_rem_euclid m (pos 12)) + 1

-- the number of the day of a month, or of its last day if it has fewer
abbrev pub day_in : ℤ → ℕ → ℕ → ℤ
day_in y m d = days_from_civil y m (min d (days_in_month y m))

-- in the years that `jiff_core` has
abbrev pub day_of_month : ℤ → ℕ → Option ℤ
day_of_month m d =
    if int_le (neg_ℤ (pos 9999)) (month_year m) && int_le (month_year m) (pos 9999)
    then Some (day_in (month_year m) (month_in_year m) d) else None

-- the day that lies n months after the day z
abbrev pub months_later : ℤ → ℤ → Option ℤ
months_later z n = day_of_month (month_number z +ℤ n) (cycle_date z).day

-- the calendar has the day
civil_in : (y m : ℤ) (d : ℕ) → IsYear y → 1 ≤ d
    → IsCivilDate y (month_in_year m) (min d (days_in_month y (month_in_year m)))
civil_in y m d h k =
    let parts = int_rem_euclid-parts m 12 (omega arith) in
    let long = days_in_month_bounds y (month_in_year m) in (
      h,
      (omega arith, omega (arith, signed_arith, parts)),
      (omega (arith, long, k), omega arith),
    )

between : (y : ℤ) → int_le (neg_ℤ (pos 9999)) y ≡ true → int_le y (pos 9999) ≡ true → IsYear y
between y a b = (omega (arith, ints, a), omega (arith, ints, b))

pub day_range : (m : ℤ) (d : ℕ) (z : ℤ) → 1 ≤ d → day_of_month m d ≡ Some z → IsEpochDay z
day_range m d z k e =
    by (int_le (neg_ℤ (pos 9999)) (month_year m)) (int_le (month_year m) (pos 9999)) refl refl e
  where
    by : (a b : Bool) → int_le (neg_ℤ (pos 9999)) (month_year m) ≡ a
        → int_le (month_year m) (pos 9999) ≡ b
        → cond (a && b) (Some (day_in (month_year m) (month_in_year m) d)) None ≡ Some z
        → IsEpochDay z
    by true true f g i =
        let here = civil_in (month_year m) m d (between (month_year m) f g) k in
        let same : day_in (month_year m) (month_in_year m) d ≡ z = cc in
        subst IsEpochDay same (epoch_day_range (date_of (record { year = month_year m; month = month_in_year m; day = min d (days_in_month (month_year m) (month_in_year m)) }) here))
    by true false f g i = cc
    by false b f g i = cc

pub later_range : (z n d : ℤ) → months_later z n ≡ Some d → IsEpochDay d
later_range z n d e =
    day_range (month_number z +ℤ n) (cycle_date z).day d (in_calendar z).2.0 e

-- the month of a day of 32 bits, or of one with an instant of 64
pub month_small : (z : ℤ) → IsWithin 3_000_000_000 z → IsWithin 150_000_000 (month_number z)
month_small z h =
    let year = year_small z h in
    let month = (in_calendar z).1 in
    (omega (arith, signed_arith, year, month), omega (arith, signed_arith, year, month))

-- so none lies so far away
pub too_far : (z n : ℤ) → IsWithin 3_000_000_000 z
    → (n <ℤ neg_ℤ (pos 1_000_000_000)) ⊎ (pos 1_000_000_000 <ℤ n) → months_later z n ≡ None
too_far z n h far =
    let m = month_number z +ℤ n in
    by (int_le (neg_ℤ (pos 9999)) (month_year m)) (int_le (month_year m) (pos 9999)) refl refl far
  where
    by : (a b : Bool) → int_le (neg_ℤ (pos 9999)) (month_year (month_number z +ℤ n)) ≡ a
        → int_le (month_year (month_number z +ℤ n)) (pos 9999) ≡ b
        → (n <ℤ neg_ℤ (pos 1_000_000_000)) ⊎ (pos 1_000_000_000 <ℤ n)
        → cond (a && b)
        (Some (day_in (month_year (month_number z +ℤ n)) (month_in_year (month_number z +ℤ n)) (cycle_date z).day))
        None ≡ None
    by false b f g k = refl
    by true false f g k = refl
    by true true f g (inl k) =
        let m = month_number z +ℤ n in
        absurd (omega (arith, signed_arith, int_div_euclid-parts m 12 (omega arith), f, k, month_small z h))
    by true true f g (inr k) =
        let m = month_number z +ℤ n in
        absurd (omega (arith, signed_arith, int_div_euclid-parts m 12 (omega arith), g, k, month_small z h))
