-- Years and seconds of dates and timestamps never fall as these grow, nor does the day.
use Rattle.std.specs.Prelude.{◌≡◌, ◌<◌, ◌≤◌, ℤ, pos, ◌+ℤ◌, ◌-ℤ◌, ◌≤ℤ◌, Bool, true, false, int_lt}
use Rattle.std.specs.Prelude.{refl}
use Rattle.std.proofs.Common.{arith, cond}
use Rattle.std.proofs.lemmas.Int.{by_lt_z}
use Rattle.jiff_core.proofs.SignedLemmas.{signed_arith, int_div_euclid-parts, int_rem_euclid-parts}
use Rattle.vortex_sql_dates.specs.declared.parts.Part.TheVariants as part
use Rattle.vortex_sql_dates.specs.CountedDays.{year_of}
use Rattle.vortex_sql_dates.specs.Instants.{day_of, time_of}
use Rattle.vortex_sql_dates.specs.Parts.{part_of, written_year}
use Rattle.vortex_sql_ranges.proofs.Steps.{NeverFalls}
use Rattle.vortex_sql_ranges.proofs.NextDays.{years_never_fall}

written : NeverFalls written_year
written a b h = by (int_lt (pos 0) a) (int_lt (pos 0) b) refl refl
  where
    by : (p q : Bool) → int_lt (pos 0) a ≡ p → int_lt (pos 0) b ≡ q
        → cond p a (a -ℤ pos 1) ≤ℤ cond q b (b -ℤ pos 1)
    by true true e f = h
    by true false e f = absurd (omega (arith, signed_arith, e, f, h))
    by false true e f = omega (arith, signed_arith, h)
    by false false e f = omega (arith, signed_arith, h)

pub days_never_fall : NeverFalls day_of
days_never_fall a b h =
    let before = int_div_euclid-parts a 86_400_000_000 (omega arith) in
    let after = int_div_euclid-parts b 86_400_000_000 (omega arith) in
    omega (arith, signed_arith, before, after, h)

pub date_years_never_fall : NeverFalls (λ z. part_of part.Year z 0)
date_years_never_fall a b h = written (year_of a) (year_of b) (years_never_fall a b h)

pub instant_years_never_fall : NeverFalls (λ z. part_of part.Year (day_of z) (time_of z))
instant_years_never_fall a b h = date_years_never_fall (day_of a) (day_of b) (days_never_fall a b h)

pub date_seconds_never_fall : NeverFalls (λ z. part_of part.Epoch z 0)
date_seconds_never_fall a b h = omega (arith, signed_arith, h)

-- what never falls within a day, nor from one day to the next, never falls
pub data Before (a b : ℤ) : Type 0 where
  same_day : day_of a ≡ day_of b → time_of a ≤ time_of b → Before a b
  earlier_day : (day_of a +ℤ pos 1) ≤ℤ day_of b → Before a b

pub time_small : (z : ℤ) → time_of z < 86_400_000_000
time_small z = omega (arith, signed_arith, int_rem_euclid-parts z 86_400_000_000 (omega arith))

pub before : (a b : ℤ) → a ≤ℤ b → Before a b
before a b h =
    by_lt_z (day_of a) (day_of b) (λ lt. earlier_day (omega (arith, signed_arith, lt)))
    (λ le. let days = days_never_fall a b h in
    let same : day_of a ≡ day_of b = omega (arith, signed_arith, days, le) in
    same_day same (omega (arith, signed_arith, int_rem_euclid-parts a 86_400_000_000 (omega arith), int_rem_euclid-parts b 86_400_000_000 (omega arith), same, h)))

pub instant_seconds_never_fall : NeverFalls (λ z. part_of part.Epoch (day_of z) (time_of z))
instant_seconds_never_fall a b h = by (before a b h)
  where
    by : Before a b
        → part_of part.Epoch (day_of a) (time_of a) ≤ℤ part_of part.Epoch (day_of b) (time_of b)
    by (same_day e k) = omega (arith, signed_arith, e, k)
    by (earlier_day k) = omega (arith, signed_arith, k, time_small a)
