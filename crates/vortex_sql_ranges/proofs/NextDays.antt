-- The year, and the days since the unit of a truncation began, from one day to the next.
use Rattle.std.specs.Prelude.{◌≡◌, ◌<◌, ◌≤◌, ◌+◌, ℕ, suc, ℤ, pos, ◌+ℤ◌, ◌≤ℤ◌, unsigned_abs}
use Rattle.std.specs.Prelude.{Bool, true, false, nat_lt, refl}
use Rattle.std.specs.Int.{int_rem_euclid}
use Rattle.std.proofs.Common.{arith, cond, ap, subst, sym, ◌∙◌, ◌⊎◌, inl, inr}
use Rattle.std.proofs.lemmas.Int.{by_lt_z}
use Rattle.jiff_core.specs.Calendar.{day_count, days_from_civil, days_in_month, days_in_year}
use Rattle.jiff_core.specs.Calendar.{IsCivilDate}
use Rattle.jiff_core.proofs.SignedLemmas.{signed_arith, int_rem_euclid-parts}
use Rattle.jiff_core.proofs.CalendarLemmas.{days_from_civil-day_count, day_count-later_year}
use Rattle.jiff_core.proofs.CalendarLemmas.{day_count-day_of_year}
use Rattle.jiff_core.proofs.MarchLemmas.{day_count-early}
use Rattle.vortex_sql_dates.specs.CountedDays.{CivilDate, day_after, next_day, cycle_date, cycle_of}
use Rattle.vortex_sql_dates.specs.CountedDays.{year_of}
use Rattle.vortex_sql_dates.specs.CountedLaws.{is_counted}
use Rattle.vortex_sql_ranges.proofs.Steps.{NeverFalls, by_steps}

-- the place of a day in its cycle, from 0
abbrev pub place : ℤ → ℕ
place z = unsigned_abs (int_rem_euclid z (pos 146_097))

-- the next day has the next place of the cycle, or the first of the next cycle
pub data Next (z : ℤ) : Type 0 where
  later : place (z +ℤ pos 1) ≡ suc (place z) → cycle_of (z +ℤ pos 1) ≡ cycle_of z → Next z
  anew : place z ≡ 146_096 → place (z +ℤ pos 1) ≡ 0 → cycle_of (z +ℤ pos 1) ≡ cycle_of z +ℤ pos 1
      → Next z

pub next : (z : ℤ) → Next z
next z = by (either (place z))
  where
    either : (n : ℕ) → (n < 146_096) ⊎ (146_096 ≤ n)
    either n = grind arith

    by : (place z < 146_096) ⊎ (146_096 ≤ place z) → Next z
    by (inl h) =
        let here = int_rem_euclid-parts z 146_097 (omega arith) in
        let there = int_rem_euclid-parts (z +ℤ pos 1) 146_097 (omega arith) in
        later (omega (arith, signed_arith, here, there, h))
        (omega (arith, signed_arith, here, there, h))
    by (inr h) =
        let here = int_rem_euclid-parts z 146_097 (omega arith) in
        let there = int_rem_euclid-parts (z +ℤ pos 1) 146_097 (omega arith) in
        anew (omega (arith, signed_arith, here, h)) (omega (arith, signed_arith, here, there, h))
        (omega (arith, signed_arith, here, there, h))

pub next_is : (n : ℕ) → day_after (suc n) ≡ next_day (day_after n)
unfolding day_after
next_is n = refl

pub first_is : day_after 0 ≡ record { year = pos 1970; month = 1; day = 1 }
unfolding day_after
first_is = refl

-- a day's year is no later than that of the next day
same_or_later : (d : CivilDate) → d.year ≤ℤ (next_day d).year
same_or_later d = by (nat_lt d.day (days_in_month d.year d.month)) (nat_lt d.month 12)
  where
    by : (b c : Bool) → d.year
        ≤ℤ (cond {A = CivilDate} b (record { year = d.year; month = d.month; day = d.day + 1 })
        (cond {A = CivilDate} c (record { year = d.year; month = d.month + 1; day = 1 })
        (record { year = d.year +ℤ pos 1; month = 1; day = 1 }))).year
    by true c = omega (arith, signed_arith)
    by false true = omega (arith, signed_arith)
    by false false = omega (arith, signed_arith)

-- the days before 1 January 2369, which is no leap year
count_2369 : day_count (pos 2369) 1 1 ≡ 4_517_685
count_2369 = day_count-early (pos 2369) 12_368 1 1 refl (omega arith) (omega arith) (omega arith)

long_2369 : days_in_year (pos 2369) ≡ 365
long_2369 = refl

-- a cycle ends in that year
last_year : (d : CivilDate) → IsCivilDate d.year d.month d.day
    → days_from_civil d.year d.month d.day ≡ pos 146_096 → d.year ≤ℤ pos 2369
last_year d h e =
    let count = days_from_civil-day_count d.year d.month d.day in
    let day = day_count-day_of_year d.year d.month d.day h.2.0 in
    by_lt_z (pos 2369) d.year
    (λ lt.
    absurd (omega (arith, signed_arith, day_count-later_year (pos 2369) d.year (omega (arith, signed_arith)) lt, count_2369, long_2369, count, day, e, h.2.0)))
    (λ le. omega (arith, signed_arith, le))

cycle_ends : (day_after 146_096).year ≤ℤ pos 2369
cycle_ends =
    let c = is_counted 146_096 (omega arith) in
    last_year (day_after 146_096) c.0 c.1

year_steps : (z : ℤ) → year_of z ≤ℤ year_of (z +ℤ pos 1)
year_steps z = by (next z)
  where
    by : Next z → year_of z ≤ℤ year_of (z +ℤ pos 1)
    by (later e c) =
        let same : (cycle_date (z +ℤ pos 1)).year ≡ (next_day (cycle_date z)).year =
        ap (λ n. (day_after n).year) e ∙ ap (λ d. d.year) (next_is (place z)) in
        omega (arith, signed_arith, same, c, same_or_later (cycle_date z))
    by (anew e f c) =
        let last : (cycle_date z).year ≤ℤ pos 2369 =
        subst (λ n. (day_after n).year ≤ℤ pos 2369) (sym e) cycle_ends in
        let first : (cycle_date (z +ℤ pos 1)).year ≡ pos 1970 =
        ap (λ n. (day_after n).year) f ∙ ap (λ d. d.year) first_is in
        omega (arith, signed_arith, last, first, c)

pub years_never_fall : NeverFalls year_of
years_never_fall = by_steps year_of year_steps
