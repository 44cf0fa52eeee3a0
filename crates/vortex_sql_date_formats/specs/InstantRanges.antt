-- Days that are read are those of the years 1 to 9999, and times are those of a day.
use Rattle.std.specs.Prelude.{◌≡◌, ◌+◌, ◌*◌, ◌&&◌, ◌<◌, ◌≤◌, ℕ, ℤ, pos, Bool, true, false, Option}
use Rattle.std.specs.Prelude.{Some, None, nat_le, option_and_then, refl, unwrap_or}
use Rattle.std.specs.Option.{option_map}
use Rattle.std.proofs.Common.{arith, cond, subst}
use Rattle.std.proofs.lemmas.Bool.Decides.{nat_tests}
use Rattle.jiff_core.specs.Calendar.{IsEpochDay, days_from_civil, days_in_month}
use Rattle.jiff_core.proofs.DateLemmas.{epoch_day_range}
use Rattle.jiff_core.proofs.SignedLemmas.{signed_arith}
use Rattle.jiff_core.specs.declared.civil.date.Date.{Date}
use Rattle.vortex_logical.specs.DateTexts.{is_civil}
use Rattle.vortex_sql_date_formats.specs.declared.fields.Fields.{Fields}
use Rattle.vortex_sql_date_formats.specs.ReadInstants.{clock, day_number, day_of, hour_of, instant_of, time_of}

civil_is : (y m d : ℕ) → (nat_le 1 y && nat_le y 9999) ≡ true → is_civil y m d ≡ true
    → (y ≤ 9999) × (1 ≤ m) × (m ≤ 12) × (1 ≤ d) × (d ≤ days_in_month (pos y) m)
civil_is y m d f g = (
  grind (arith, nat_tests, f),
  grind (arith, nat_tests, g),
  grind (arith, nat_tests, g),
  grind (arith, nat_tests, g),
  grind (arith, nat_tests, g),
)

in_calendar : (y m d : ℕ) → (nat_le 1 y && nat_le y 9999) ≡ true → is_civil y m d ≡ true
    → IsEpochDay (days_from_civil (pos y) m d)
in_calendar y m d f g =
    let h = civil_is y m d f g in
    let date : Date = record {
      year = pos y;
      month = m;
      day = d;
      year_in = (omega (arith, signed_arith), omega (arith, signed_arith, h.0));
      month_in = (h.1, h.2);
      day_in = (h.3, h.4);
    } in
    epoch_day_range date

day_range : (y m d : ℕ) (z : ℤ) → day_number y m d ≡ Some z → IsEpochDay z
day_range y m d z e = by (nat_le 1 y && nat_le y 9999) (is_civil y m d) refl refl e
  where
    by : (a b : Bool) → (nat_le 1 y && nat_le y 9999) ≡ a → is_civil y m d ≡ b
        → cond a (cond b (Some (days_from_civil (pos y) m d)) None) None ≡ Some z
        → IsEpochDay z
    by true true f g h =
        let same : days_from_civil (pos y) m d ≡ z = cc in
        subst IsEpochDay same (in_calendar y m d f g)
    by true false f g h = cc
    by false b f g h = cc

clock_range : (h m s u t : ℕ) → clock h m s u ≡ Some t → t < 86_400_000_000
clock_range h m s u t e =
    by (nat_le h 23 && nat_le m 59 && nat_le s 59 && nat_le u 999999) refl e
  where
    by : (b : Bool) → (nat_le h 23 && nat_le m 59 && nat_le s 59 && nat_le u 999999) ≡ b
        → cond b (Some ((h * 3600 + m * 60 + s) * 1000000 + u)) None ≡ Some t
        → t < 86_400_000_000
    by true f g =
        let same : (h * 3600 + m * 60 + s) * 1000000 + u ≡ t = cc in
        let hours : h ≤ 23 = grind (arith, nat_tests, f) in
        let minutes : m ≤ 59 = grind (arith, nat_tests, f) in
        let seconds : s ≤ 59 = grind (arith, nat_tests, f) in
        let micros : u ≤ 999999 = grind (arith, nat_tests, f) in
        omega (arith, same, hours, minutes, seconds, micros)
    by false f g = cc

-- a time is one of a day, whatever its hour is
time_range : (o : Option ℕ) (m s u t : ℕ) → option_and_then (λ h. clock h m s u) o ≡ Some t
    → t < 86_400_000_000
time_range None m s u t e = cc
time_range (Some h) m s u t e = clock_range h m s u t e

pub field_range : (f : Fields) (i : ℤ × ℕ) → instant_of f ≡ Some i
    → IsEpochDay i.0 × (i.1 < 86_400_000_000)
field_range f i e = by (day_of f) (time_of f) refl refl e
  where
    by : (d : Option ℤ) (t : Option ℕ) → day_of f ≡ d → time_of f ≡ t
        → option_and_then (λ z. option_map (λ n. (z, n)) t) d ≡ Some i
        → IsEpochDay i.0 × (i.1 < 86_400_000_000)
    by (Some z) (Some n) a b h =
        let first : z ≡ i.0 = cc in
        let second : n ≡ i.1 = cc in (
          subst IsEpochDay first (day_range (unwrap_or f.year 0) (unwrap_or f.month 1) (unwrap_or f.day 1) z a),
          subst (λ k. k < 86_400_000_000) second (time_range (hour_of f.half_hour (unwrap_or f.half 0) (unwrap_or f.hour 0))
              (unwrap_or f.minute 0) (unwrap_or f.second 0) (unwrap_or f.micros 0) n b),
        )
    by (Some z) None a b h = cc
    by None t a b h = cc
