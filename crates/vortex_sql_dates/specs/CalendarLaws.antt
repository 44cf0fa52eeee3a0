-- In the years -9999 to 9999 the counted days are those of `jiff_core`'s calendar.
use Rattle.std.specs.Prelude.{◌≡◌, ◌<◌, ◌≤◌, ◌+◌, ◌-◌, ◌*◌, ℕ, suc, ℤ, pos, neg_ℤ}
use Rattle.std.specs.Prelude.{◌+ℤ◌, ◌-ℤ◌, ◌*ℤ◌, ◌≤ℤ◌, unsigned_abs}
use Rattle.std.specs.Int.{int_rem_euclid}
use Rattle.std.proofs.Common.{arith, sym, ◌∙◌, ◌⊎◌, inl, inr}
use Rattle.std.proofs.lemmas.Bool.Decides.{nat_tests}
use Rattle.jiff_core.specs.Calendar.{day_count, days_from_civil, days_in_month}
use Rattle.jiff_core.specs.Date.{epoch_day}
use Rattle.jiff_core.specs.March.{march_days, march_months}
use Rattle.jiff_core.specs.declared.civil.date.Date.{Date}
use Rattle.jiff_core.proofs.CalendarLemmas.{days_from_civil-day_count, days_in_month_bounds}
use Rattle.jiff_core.proofs.DateLemmas.{epoch_day_injective}
use Rattle.jiff_core.proofs.SignedLemmas.{signed_arith, int_rem_euclid-parts}
use Rattle.jiff_core.proofs.MarchLemmas.{day_count-early, day_count-late, leap_day, leap_day-shift}
use Rattle.vortex_sql_dates.specs.CountedDays.{cycle_date, cycle_of, year_of}
use Rattle.vortex_sql_dates.specs.CountedLaws.{cycle_counted, date_of}
use borrow.Author.Differences.{up, down}

-- year, month and day of a date are those that its number has
abbrev pub DatesAreCounted : Type 0
DatesAreCounted =
    (d : Date) → (year_of (epoch_day d) ≡ d.year) × ((cycle_date (epoch_day d)).month ≡ d.month)
    × ((cycle_date (epoch_day d)).day ≡ d.day)

-- 400 times k years later lie 146,097 times k days later
march_cycles : (n k : ℕ) → march_days (n + 400 * k) ≡ march_days n + 146_097 * k
march_cycles n k = omega arith

-- a year is as long as those that lie 400 times k years away
leap_cycles : (n k : ℕ) → leap_day (pos (n + 400 * k)) ≡ leap_day (pos n)
leap_cycles n k = grind (arith, nat_tests)

-- the year that lies u times 400 years before and w times 400 years after one
abbrev moved : ℕ → ℕ → ℕ → ℕ
moved n u w = n + 400 * w - 400 * u

-- so many years from -10000 on and x days have as many days as 1970, r days and those cycles
module _ (n x u w r : ℕ) (small : x ≤ 430) (less : r < 146_097)
    (days : march_days n + x + 146_097 * w ≡ r + 4_371_953 + 146_097 * u) where
  after : 11_000 + 400 * u ≤ n + 400 * w
  after = omega (arith, small, less, days)

  before : n + 400 * w ≤ 13_000 + 400 * u
  before = omega (arith, small, less, days)

  moved_is : moved n u w + 400 * u ≡ n + 400 * w
  moved_is = omega (arith, after)

  moved_days : march_days (moved n u w) + x ≡ r + 4_371_953
  moved_days =
      omega (arith, march_cycles (moved n u w) u, march_cycles n w, moved_is, days)

month_cycles : (a b : ℤ) (m : ℕ) → leap_day a ≡ leap_day b
    → days_in_month a m ≡ days_in_month b m
month_cycles a b m e = grind (arith, nat_tests)

-- the year of the cycle in which a date's year lies
record InCycle (date : Date) (y : ℤ) : Type 0 where
  year : date.year ≡ y +ℤ cycle_of (epoch_day date) *ℤ pos 400
  low : neg_ℤ (pos 9999) ≤ℤ y
  high : y ≤ℤ pos 9999
  leap : leap_day y ≡ leap_day date.year
  number : days_from_civil y date.month date.day
      ≡ pos (unsigned_abs (int_rem_euclid (epoch_day date) (pos 146_097)))

module _ (date : Date) where
  abbrev z : ℤ
  z = epoch_day date

  abbrev c : ℤ
  c = cycle_of z

  abbrev r : ℕ
  r = unsigned_abs (int_rem_euclid z (pos 146_097))

  abbrev n : ℕ
  n = up date.year + 10_000 - down date.year

  place : date.year +ℤ pos 10_000 ≡ pos n
  place = omega (arith, signed_arith, date.year_in.0)

  less : r < 146_097
  less = omega (arith, signed_arith, int_rem_euclid-parts z 146_097 (omega arith))

  cycles : up z + 146_097 * down c ≡ r + down z + 146_097 * up c
  cycles = omega (arith, signed_arith, int_rem_euclid-parts z 146_097 (omega arith))

  counted : up z + 4_371_953 ≡ down z + day_count date.year date.month date.day
  counted = days_from_civil-day_count date.year date.month date.day

  days_small : date.day ≤ 31
  days_small = omega (arith, date.day_in.1, days_in_month_bounds date.year date.month)

  -- of a year k + s from -10000 on, whose days before March are counted to the year before
  in_cycle : (k x s : ℕ) → s ≤ 1 → x ≤ 430 → n ≡ k + s
      → day_count date.year date.month date.day ≡ march_days k + x
      → ((y : ℤ) → y +ℤ pos 10_000 ≡ pos (moved k (up c) (down c) + s)
      → day_count y date.month date.day ≡ march_days (moved k (up c) (down c)) + x)
      → InCycle date (pos (moved k (up c) (down c) + s) -ℤ pos 10_000)
  in_cycle k x s early small is count later =
      let days : march_days k + x + 146_097 * down c ≡ r + 4_371_953 + 146_097 * up c =
      omega (arith, cycles, counted, count) in
      let t = moved k (up c) (down c) + s in
      let y = pos t -ℤ pos 10_000 in
      let low = after k x (up c) (down c) r small less days in
      let high = before k x (up c) (down c) r small less days in
      let same : t + 400 * up c ≡ n + 400 * down c =
      omega (arith, is, moved_is k x (up c) (down c) r small less days) in
      let here : y +ℤ pos 10_000 ≡ pos t = omega (arith, signed_arith) in
      let cycle_days = moved_days k x (up c) (down c) r small less days in
      record {
        year = omega (arith, signed_arith, place, same);
        low = omega (arith, signed_arith, low);
        high = omega (arith, signed_arith, high, early);
        leap =
            leap_day-shift y t here ∙ sym (leap_cycles t (up c))
            ∙ (λ i. leap_day (pos (same i))) ∙ leap_cycles n (down c)
            ∙ sym (leap_day-shift date.year n place);
        number =
            omega (arith, signed_arith, days_from_civil-day_count y date.month date.day, later y here, cycle_days);
      }

  late : 3 ≤ date.month → InCycle date (pos (moved n (up c) (down c) + 0) -ℤ pos 10_000)
  late h =
      in_cycle n (march_months date.month + date.day + 59) 0 (omega arith)
      (omega (arith, days_small, date.month_in.1)) (omega arith)
      (omega (arith, day_count-late date.year n date.month date.day place h date.month_in.1 date.day_in.0))
      (λ y e. omega (arith, day_count-late y (moved n (up c) (down c) + 0) date.month date.day e h date.month_in.1 date.day_in.0))

  early : date.month ≤ 2
      → InCycle date (pos (moved (n - 1) (up c) (down c) + 1) -ℤ pos 10_000)
  early h =
      let positive : n ≡ n - 1 + 1 = omega (arith, signed_arith, date.year_in.0) in
      let k = n - 1 in
      let here : date.year +ℤ pos 10_000 ≡ pos (suc k) = omega (arith, signed_arith, place, positive) in
      in_cycle k (march_months (date.month + 12) + date.day + 59) 1 (omega arith)
      (omega (arith, days_small, h)) positive
      (omega (arith, day_count-early date.year k date.month date.day here date.month_in.0 h date.day_in.0))
      (λ y e. omega (arith, day_count-early y (moved k (up c) (down c)) date.month date.day (omega (arith, signed_arith, e)) date.month_in.0 h date.day_in.0))

  -- year, month and day of the date are those of its number
  of_cycle : (y : ℤ) → InCycle date y
      → (year_of z ≡ date.year) × ((cycle_date z).month ≡ date.month)
      × ((cycle_date z).day ≡ date.day)
  of_cycle y h =
      let length : days_in_month y date.month ≡ days_in_month date.year date.month =
      month_cycles y date.year date.month h.leap in
      let inside : date.day ≤ days_in_month y date.month = omega (arith, length, date.day_in.1) in
      let moved_date : Date =
      record { year = y; month = date.month; day = date.day; year_in = (h.low, h.high); month_in = date.month_in; day_in = (date.day_in.0, inside) } in
      let counted_date : Date = date_of (cycle_date z) (cycle_counted z).0 in
      let same = epoch_day_injective moved_date counted_date (h.number ∙ sym (cycle_counted z).1) in
      ((λ i. sym same.0 i +ℤ c *ℤ pos 400) ∙ sym h.year, sym same.1, sym same.2)

  pub calendar_agrees : (year_of z ≡ date.year) × ((cycle_date z).month ≡ date.month)
      × ((cycle_date z).day ≡ date.day)
  calendar_agrees = by (either date.month)
    where
      either : (m : ℕ) → (m ≤ 2) ⊎ (3 ≤ m)
      either m = grind arith

      by : (date.month ≤ 2) ⊎ (3 ≤ date.month)
          → (year_of z ≡ date.year) × ((cycle_date z).month ≡ date.month)
          × ((cycle_date z).day ≡ date.day)
      by (inl l) = of_cycle _ (early l)
      by (inr l) = of_cycle _ (late l)
