-- Days of the calendar by the tests of their parts, and their texts read back.
use Rattle.std.proofs.Common.{◌≡◌, ◌∙◌, ℕ, ℤ, pos, zero, suc, ◌+◌, ◌-◌, ◌*◌, ◌/◌, ◌%◌, ◌<◌, ◌≤◌, true}
use Rattle.std.proofs.Common.{Some, None, arith, ap, sym, subst, refl}
use Rattle.std.specs.Prelude.{if◌then◌else◌, ◌&&◌, neg_ℤ, ◌≤ℤ◌}
use Rattle.std.specs.Char.{is_ascii_digit}
use Rattle.jiff_core.specs.declared.civil.date.Date.{Date}
use Rattle.jiff_core.specs.Calendar.{days_from_civil, days_in_month, day_count, IsCivilDate, IsEpochDay}
use Rattle.jiff_core.specs.Date.{epoch_day}
use Rattle.jiff_core.proofs.SignedLemmas.{signed_arith}
use Rattle.jiff_core.proofs.CalendarLemmas.{days_in_month_bounds, days_from_civil-day_count, day_count-later_year}
use Rattle.jiff_core.proofs.CalendarLemmas.{day_count-day_of_year}
use Rattle.jiff_core.proofs.MarchLemmas.{day_count-early}
use borrow.Author.Differences.{up, down}
use Rattle.jiff_core.proofs.DateLemmas.{epoch_day_range, epoch_day_injective}
use Rattle.vortex_logical.specs.DateTexts.{is_civil, two_digits, day_number, date_text, date_of_text}
use Rattle.vortex_logical.specs.DateTexts.{IsDay, IsDated, DatesAreReadBack}

-- ---- whether the calendar has a day

pub civil_is : (y m d : ℕ) → 1 ≤ m → m ≤ 12 → 1 ≤ d → d ≤ days_in_month (pos y) m → is_civil y m d ≡ true
civil_is y m d a b c e = grind (arith, a, b, c, e)

-- ---- days with a text

abbrev pub date_of : (y m d : ℕ) → IsCivilDate (pos y) m d → Date
date_of y m d h = record { year = pos y; month = m; day = d; year_in = h.0; month_in = h.1; day_in = h.2 }

pub dated_in_range : (z : ℤ) → IsDated z → IsEpochDay z
dated_in_range z h =
    let day = h.3 in
    subst IsEpochDay day.number (epoch_day_range (date_of h.0 h.1 h.2 day.calendar))

-- a date before the year 0 has no text
pub before_none : (z : ℤ) (date : Date) → epoch_day date ≡ z → ¬ (pos 0 ≤ℤ date.year) → ¬ (IsDated z)
before_none z date e early h =
    let day = h.3 in
    let same = epoch_day_injective date (date_of h.0 h.1 h.2 day.calendar) (e ∙ sym day.number) in
    early (subst (λ Y. pos 0 ≤ℤ Y) (sym same.0) (omega (arith, signed_arith)))

-- ---- texts read back

digit : (n : ℕ) → n < 10 → is_ascii_digit (48 + n) ≡ true
digit n h = grind (arith, h)

pub digits_back : (n : ℕ) → n ≤ 99 → two_digits (48 + n / 10) (48 + n % 10) ≡ Some n
digits_back n h =
    (λ i. if digit (n / 10) (omega (arith, h)) i && digit (n % 10) (omega arith) i
    then Some ((48 + n / 10 - 48) * 10 + (48 + n % 10 - 48)) else None)
    ∙ ap (λ m. Some m) (omega arith)

year_parts : (y : ℕ) → y / 100 * 100 + y % 100 ≡ y
year_parts y = omega arith

pub day_back : (z : ℤ) (y m d : ℕ) → IsDay z y m d → date_of_text (date_text y m d) ≡ Some z
day_back z y m d h =
    let c = h.calendar in
    let years : y ≤ 9999 = omega (arith, signed_arith, c.0.1) in
    let days : d ≤ 99 = omega (arith, c.2.1, (days_in_month_bounds (pos y) m).0) in
    (λ i. day_number (digits_back (y / 100) (omega (arith, years)) i) (digits_back (y % 100) (omega arith) i)
    (digits_back m (omega (arith, c.1.1)) i) (digits_back d days i))
    ∙ (λ i. if is_civil (year_parts y i) m d then Some (days_from_civil (pos (year_parts y i)) m d) else None)
    ∙ (λ i. if civil_is y m d c.1.0 c.1.1 c.2.0 c.2.1 i then Some (days_from_civil (pos y) m d) else None)
    ∙ ap (λ n. Some n) h.number

pub dates_are_read_back : DatesAreReadBack
dates_are_read_back z text h = ap date_of_text h.4 ∙ day_back z h.0 h.1 h.2 h.3

-- ---- the first day and the last one

pub first_count : day_count (pos 0) 1 1 ≡ 3652425
first_count = day_count-early (pos 0) 9999 1 1 refl (omega arith) (omega arith) (omega arith)

year_count : (y : ℕ) → 3652425 ≤ day_count (pos y) 1 1
year_count zero = omega (arith, first_count)
year_count (suc y) =
    omega (arith, first_count, day_count-later_year (pos 0) (pos (suc y)) (omega (arith, signed_arith)) (omega (arith, signed_arith)))

pub dated_between : (z : ℤ) → IsDated z → (neg_ℤ (pos 719528) ≤ℤ z) × (z ≤ℤ pos 2932896)
dated_between z h =
    let day = h.3 in
    let from : up z + 4371953 ≡ down z + day_count (pos h.0) h.1 h.2 =
    subst (λ n. up n + 4371953 ≡ down n + day_count (pos h.0) h.1 h.2) day.number (days_from_civil-day_count (pos h.0) h.1 h.2) in
    let within = dated_in_range z h in
    let first : day_count (pos h.0) 1 1 ≤ day_count (pos h.0) h.1 h.2 =
    omega (arith, day_count-day_of_year (pos h.0) h.1 h.2 day.calendar.2.0, day.calendar.2.0) in
    (omega (arith, signed_arith, from, first, year_count h.0), omega (arith, signed_arith, within.1))
