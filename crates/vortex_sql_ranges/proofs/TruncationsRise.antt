-- Where a year, a month, an hour, .. begins never falls as dates and timestamps grow.
use Rattle.std.specs.Prelude.{◌≡◌, ◌≤◌, ◌+◌, ◌-◌, ℕ, ℤ, pos, ◌+ℤ◌, ◌≤ℤ◌, Bool}
use Rattle.std.specs.Prelude.{true, false, nat_lt, refl}
use Rattle.std.proofs.Common.{arith, cond, ap, ◌∙◌, ◌⊎◌, inl, inr}
use Rattle.jiff_core.specs.Calendar.{days_in_month, IsCivilDate}
use Rattle.jiff_core.proofs.SignedLemmas.{signed_arith}
use Rattle.jiff_core.proofs.CalendarLemmas.{days_of_months_more, weekday_number-parts}
use Rattle.vortex_sql_dates.specs.CountedDays.{CivilDate, day_after, next_day, cycle_date, days_since}
use Rattle.vortex_sql_dates.specs.CountedLaws.{in_calendar}
use Rattle.vortex_sql_dates.specs.Instants.{day_of, time_of}
use Rattle.vortex_sql_dates.specs.declared.truncations.Unit.{Unit}
use Rattle.vortex_sql_dates.specs.declared.truncations.Unit.TheVariants as unit
use Rattle.vortex_sql_dates.specs.Truncations.{quarter_month, days_before, first_day, first_time}
use Rattle.vortex_sql_dates.specs.Truncations.{first_instant}
use Rattle.vortex_sql_ranges.proofs.Steps.{NeverFalls, by_steps}
use Rattle.vortex_sql_ranges.proofs.NextDays.{place, Next, later, anew, next, next_is, first_is}
use Rattle.vortex_sql_ranges.proofs.PartsRise.{Before, same_day, earlier_day, before, days_never_fall}
use Rattle.vortex_sql_ranges.proofs.PartsRise.{time_small}

-- the month with which a year, a quarter or a month begins, by the month of a day
abbrev first_month : Unit → ℕ → ℕ
first_month unit.Year m = 1
first_month unit.Quarter m = quarter_month m
first_month u m = m

-- the days since it began
abbrev since : Unit → CivilDate → ℕ
since u d = days_since d (first_month u d.month)

-- the month after is the first of its own, or of the same as this one
month_after : (u : Unit) (m : ℕ) → 1 ≤ m
    → (first_month u (m + 1) ≡ m + 1) ⊎ (first_month u (m + 1) ≡ first_month u m)
month_after unit.Year m h = inr refl
month_after unit.Quarter m h = grind arith
month_after u m h = inl refl

january_first : (u : Unit) → first_month u 1 ≡ 1
january_first unit.Quarter = refl
january_first u = refl

-- each day has at most one day more since then than the day before
one_more : (u : Unit) (d : CivilDate) → IsCivilDate d.year d.month d.day
    → since u (next_day d) ≤ since u d + 1
one_more u d h =
    by (nat_lt d.day (days_in_month d.year d.month)) (nat_lt d.month 12) refl
  where
    next_month : d.day ≡ days_in_month d.year d.month
        → since u (record { year = d.year; month = d.month + 1; day = 1 }) ≤ since u d + 1
    next_month last = of (month_after u d.month h.1.0)
      where
        back : d.month + 1 - 1 ≡ d.month
        back = omega arith

        of : (first_month u (d.month + 1) ≡ d.month + 1)
            ⊎ (first_month u (d.month + 1) ≡ first_month u d.month)
            → since u (record { year = d.year; month = d.month + 1; day = 1 }) ≤ since u d + 1
        of (inl e) = rw e (omega arith)
        of (inr e) =
            rw e (rw back (omega (arith, days_of_months_more d.year d.month h.1.0, last)))

    by : (b c : Bool) → nat_lt d.day (days_in_month d.year d.month) ≡ b
        → since u
        (cond b (record { year = d.year; month = d.month; day = d.day + 1 })
        (cond c (record { year = d.year; month = d.month + 1; day = 1 })
        (record { year = d.year +ℤ pos 1; month = 1; day = 1 }))) ≤ since u d + 1
    by true c e = omega arith
    by false true e =
        let least : days_in_month d.year d.month ≤ d.day = grind arith in
        next_month (omega (arith, least, h.2.1))
    by false false e = rw (january_first u) (omega arith)

-- of years, quarters and months
module _ (u : Unit) where
  first_of_cycle : since u (record { year = pos 1970; month = 1; day = 1 }) ≡ 0
  first_of_cycle = rw (january_first u) (omega arith)

  one_more_day : (z : ℤ) → since u (cycle_date (z +ℤ pos 1)) ≤ since u (cycle_date z) + 1
  one_more_day z = by (next z)
    where
      by : Next z → since u (cycle_date (z +ℤ pos 1)) ≤ since u (cycle_date z) + 1
      by (later e c) =
          let same : since u (cycle_date (z +ℤ pos 1)) ≡ since u (next_day (cycle_date z)) =
          ap (λ n. since u (day_after n)) e ∙ ap (since u) (next_is (place z)) in
          omega (arith, same, one_more u (cycle_date z) (in_calendar z))
      by (anew e f c) =
          let first : since u (cycle_date (z +ℤ pos 1))
          ≡ since u (record { year = pos 1970; month = 1; day = 1 }) =
          ap (λ n. since u (day_after n)) f ∙ ap (since u) first_is in
          omega (arith, first, first_of_cycle)

more_days : (u : Unit) (z : ℤ) → days_before u (z +ℤ pos 1) ≤ days_before u z + 1
more_days unit.Year z = one_more_day unit.Year z
more_days unit.Quarter z = one_more_day unit.Quarter z
more_days unit.Month z = one_more_day unit.Month z
more_days unit.Week z =
    omega (arith, signed_arith, weekday_number-parts z, weekday_number-parts (z +ℤ pos 1))
more_days u z = omega arith

pub first_days_never_fall : (u : Unit) → NeverFalls (first_day u)
first_days_never_fall u =
    by_steps (first_day u) (λ z. omega (arith, signed_arith, more_days u z))

-- the time of the day too
times_rise : (u : Unit) (s t : ℕ) → s ≤ t → first_time u s ≤ first_time u t
times_rise unit.Hour s t h = omega (arith, h)
times_rise unit.Minute s t h = omega (arith, h)
times_rise unit.Second s t h = omega (arith, h)
times_rise u s t h = omega arith

not_after : (u : Unit) (t : ℕ) → first_time u t ≤ t
not_after unit.Hour t = omega arith
not_after unit.Minute t = omega arith
not_after unit.Second t = omega arith
not_after u t = omega arith

-- a unit begins at midnight, or on the day itself
midnight_or_today : (u : Unit) → ((t : ℕ) → first_time u t ≡ 0) ⊎ ((z : ℤ) → first_day u z ≡ z)
midnight_or_today unit.Hour = inr (λ z. omega (arith, signed_arith))
midnight_or_today unit.Minute = inr (λ z. omega (arith, signed_arith))
midnight_or_today unit.Second = inr (λ z. omega (arith, signed_arith))
midnight_or_today u = inl (λ t. refl)

pub first_instants_never_fall : (u : Unit) → NeverFalls (first_instant u)
first_instants_never_fall u a b h = by (before a b h)
  where
    by : Before a b → first_instant u a ≤ℤ first_instant u b
    by (same_day e k) =
        let day : first_day u (day_of a) ≡ first_day u (day_of b) = ap (first_day u) e in
        omega (arith, signed_arith, day, times_rise u (time_of a) (time_of b) k)
    by (earlier_day k) = of (midnight_or_today u)
      where
        of : ((t : ℕ) → first_time u t ≡ 0) ⊎ ((z : ℤ) → first_day u z ≡ z)
            → first_instant u a ≤ℤ first_instant u b
        of (inl e) =
            let days = first_days_never_fall u (day_of a) (day_of b) (days_never_fall a b h) in
            omega (arith, signed_arith, days, e (time_of a))
        of (inr e) =
            let less = time_small a in
            omega (arith, signed_arith, k, less, e (day_of a), e (day_of b), not_after u (time_of a))
