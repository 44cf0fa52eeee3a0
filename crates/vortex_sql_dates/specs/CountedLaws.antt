-- The days that are counted from 1 January 1970 are those that the calendar has.
use Rattle.std.specs.Prelude.{◌≡◌, ◌<◌, ◌≤◌, ◌+◌, ℕ, zero, suc, ℤ, pos, ◌+ℤ◌, ◌≤ℤ◌, Bool, true, neg_ℤ}
use Rattle.std.specs.Prelude.{false, nat_lt, unsigned_abs, refl}
use Rattle.std.specs.Int.{int_rem_euclid}
use Rattle.std.proofs.Common.{arith, cond, subst, sym, ◌∙◌}
use Rattle.jiff_core.specs.Calendar.{days_from_civil, days_in_month, IsCivilDate, IsWithin}
use Rattle.jiff_core.specs.declared.civil.date.Date.{Date}
use Rattle.jiff_core.proofs.SignedLemmas.{signed_arith, int_div_euclid-parts, int_rem_euclid-parts}
use Rattle.jiff_core.proofs.CalendarLemmas.{days_in_month_bounds, days_from_civil-day_count}
use Rattle.jiff_core.proofs.CalendarLemmas.{day_count-epoch, day_of_year_bound, days_in_year_bounds}
use Rattle.jiff_core.proofs.DateLemmas.{days_from_civil-day, days_from_civil-next_month}
use Rattle.jiff_core.proofs.DateLemmas.{days_from_civil-next_year, days_from_civil-max}
use Rattle.vortex_sql_dates.specs.CountedDays.{CivilDate, day_after, next_day, cycle_date}
use Rattle.vortex_sql_dates.specs.CountedDays.{ordinal_of, year_of}

-- the calendar has the day, and it is that many days after 1 January 1970
abbrev pub IsCounted : ℕ → CivilDate → Type 0
IsCounted n d =
    IsCivilDate d.year d.month d.day × (days_from_civil d.year d.month d.day ≡ pos n)

less_by : (a b : ℕ) → nat_lt a b ≡ true → a < b
less_by a b e = grind arith

most_by : (a b : ℕ) → nat_lt a b ≡ false → b ≤ a
most_by a b e = grind arith

module _ (n : ℕ) (y : ℤ) (m d : ℕ) (h : IsCounted n (record { year = y; month = m; day = d })) where
  same_month : d < days_in_month y m
      → IsCounted (suc n) (record { year = y; month = m; day = d + 1 })
  same_month less =
      let place = days_from_civil-day y m d (d + 1) h.0.2.0 (omega arith) in (
        (h.0.0, h.0.1, (omega arith, omega (arith, less))),
        omega (arith, signed_arith, place, h.1),
      )

  next_month : d ≡ days_in_month y m → m < 12
      → IsCounted (suc n) (record { year = y; month = m + 1; day = 1 })
  next_month last less =
      let long = days_in_month_bounds y (m + 1) in (
        (h.0.0, (omega arith, omega (arith, less)), (omega arith, omega (arith, long))),
        omega (arith, signed_arith, days_from_civil-next_month y m d h.0.1.0 last, h.1),
      )

  not_last : m ≡ 12 → d ≡ 31 → n < 2_932_896 → ¬ (y ≡ pos 9999)
  not_last twelve last few e =
      let end : days_from_civil y m d ≡ pos 2_932_896 =
      (λ i. days_from_civil (e i) (twelve i) (last i)) ∙ days_from_civil-max in
      absurd (omega (arith, signed_arith, end, few, h.1))

  next_year : m ≡ 12 → d ≡ 31 → n < 2_932_896
      → IsCounted (suc n) (record { year = y +ℤ pos 1; month = 1; day = 1 })
  next_year twelve last few =
      let other = not_last twelve last few in
      let low : neg_ℤ (pos 10000) ≤ℤ y = omega (arith, signed_arith, h.0.0.0) in
      let before : days_from_civil y 12 31 ≡ pos n =
      (λ i. days_from_civil y (sym twelve i) (sym last i)) ∙ h.1 in
      let moved = days_from_civil-next_year y (y +ℤ pos 1) low refl in (
        (
          (omega (arith, signed_arith, h.0.0.0), omega (arith, signed_arith, h.0.0.1, other)),
          (omega arith, omega arith),
          (omega arith, omega (arith, days_in_month_bounds (y +ℤ pos 1) 1)),
        ),
        omega (arith, signed_arith, moved, before),
      )

-- the day after is counted, up to the last day of 9999
next_counted : (n : ℕ) (d : CivilDate) → n < 2_932_896 → IsCounted n d → IsCounted (suc n) (next_day d)
next_counted n d few h =
    by (nat_lt d.day (days_in_month d.year d.month)) (nat_lt d.month 12) refl refl
  where
    twelve : nat_lt d.month 12 ≡ false → d.month ≡ 12
    twelve e = omega (arith, most_by d.month 12 e, h.0.1.1)

    december : nat_lt d.day (days_in_month d.year d.month) ≡ false → d.month ≡ 12 → d.day ≡ 31
    december e m =
        let least : 31 ≤ d.day =
        subst (λ k. days_in_month d.year k ≤ d.day) m (most_by d.day (days_in_month d.year d.month) e) in
        let most : d.day ≤ 31 =
        subst (λ k. d.day ≤ days_in_month d.year k) m h.0.2.1 in
        omega (arith, least, most)

    by : (b c : Bool) → nat_lt d.day (days_in_month d.year d.month) ≡ b → nat_lt d.month 12 ≡ c
        → IsCounted (suc n)
        (cond b (record { year = d.year; month = d.month; day = d.day + 1 })
        (cond c (record { year = d.year; month = d.month + 1; day = 1 })
        (record { year = d.year +ℤ pos 1; month = 1; day = 1 })))
    by true c e f = same_month n d.year d.month d.day h (less_by d.day _ e)
    by false true e f =
        let last : d.day ≡ days_in_month d.year d.month =
        omega (arith, most_by d.day (days_in_month d.year d.month) e, h.0.2.1) in
        next_month n d.year d.month d.day h last (less_by d.month 12 f)
    by false false e f =
        next_year n d.year d.month d.day h (twelve f) (december e (twelve f)) few

first_day : days_from_civil (pos 1970) 1 1 ≡ pos 0
first_day = omega (arith, signed_arith, days_from_civil-day_count (pos 1970) 1 1, day_count-epoch)

pub is_counted : (n : ℕ) → n ≤ 2_932_896 → IsCounted n (day_after n)
unfolding day_after
is_counted zero h = (
  (
    (omega (arith, signed_arith), omega (arith, signed_arith)),
    (omega arith, omega arith),
    (omega arith, omega (arith, days_in_month_bounds (pos 1970) 1)),
  ),
  first_day,
)
is_counted (suc n) h =
    next_counted n (day_after n) (omega (arith, h)) (is_counted n (omega (arith, h)))

abbrev pub date_of : (d : CivilDate) → IsCivilDate d.year d.month d.day → Date
date_of d h = record {
  year = d.year;
  month = d.month;
  day = d.day;
  year_in = h.0;
  month_in = h.1;
  day_in = h.2;
}

-- so the calendar has the day that stands for any other
pub cycle_counted : (z : ℤ)
    → IsCounted (unsigned_abs (int_rem_euclid z (pos 146_097))) (cycle_date z)
cycle_counted z =
    is_counted (unsigned_abs (int_rem_euclid z (pos 146_097)))
    (omega (arith, signed_arith, int_rem_euclid-parts z 146_097 (omega arith)))

pub in_calendar : (z : ℤ) → IsCivilDate (cycle_date z).year (cycle_date z).month (cycle_date z).day
in_calendar z = (cycle_counted z).0

pub ordinal_small : (z : ℤ) → ordinal_of z ≤ 366
ordinal_small z =
    let c = in_calendar z in
    omega (arith, day_of_year_bound (cycle_date z).year (cycle_date z).month (cycle_date z).day c, days_in_year_bounds (cycle_date z).year)

pub year_small : (z : ℤ) → IsWithin 3_000_000_000 z → IsWithin 10_000_000 (year_of z)
year_small z h =
    let c = in_calendar z in
    let parts = int_div_euclid-parts z 146_097 (omega arith) in (
      omega (arith, signed_arith, parts, c.0.0, h.0),
      omega (arith, signed_arith, parts, c.0.1, h.1),
    )
