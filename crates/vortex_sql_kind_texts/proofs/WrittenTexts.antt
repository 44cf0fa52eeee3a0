-- What is written of a day or an instant is its text by the calendar.
use Rattle.std.proofs.Common.{◌≡◌, ◌∙◌, ◌≤ℤ◌, ◌++◌, ℕ, ℤ, pos, neg_ℤ, List, Some, None, Bool, true, false, ap, arith, cond, refl, subst, sym}
use Rattle.std.specs.Prelude.{◌&&◌, int_le, unsigned_abs}
use Rattle.std.specs.Option.{option_map}
use Rattle.std.proofs.lemmas.Int.{ints}
use Rattle.jiff_core.proofs.SignedLemmas.{signed_arith, int_div_euclid-parts, int_rem_euclid-parts}
use Rattle.vortex_logical.specs.DateTexts.{DatedDays, IsDated, IsDateText, IsDay, date_text}
use Rattle.vortex_logical.specs.TimestampTexts.{IsTimed, IsTimestampText, time_text}
use Rattle.vortex_sql_dates.specs.CalendarLaws.{calendar_agrees}
use Rattle.vortex_sql_dates.specs.CountedDays.{cycle_date, year_of}
use Rattle.vortex_sql_dates.specs.CountedLaws.{date_of}
use Rattle.vortex_sql_dates.specs.Instants.{day_of, time_of}
use Rattle.vortex_logical.specs.Cells.{IsCellText, IsStored}
use Rattle.vortex_sql_kind_texts.specs.declared.kinds.WrittenKind.{WrittenKind}
use Rattle.vortex_sql_kind_texts.specs.declared.kinds.WrittenKind.TheVariants.{Date, Timestamp}
use Rattle.vortex_sql_kind_texts.specs.KindTexts.{day_text, instant_text, stored_text}
use Rattle.vortex_sql_kind_texts.specs.StoredKinds.{written_kind_of}

day_is : (z : ℤ) (y m d : ℕ) → IsDay z y m d
    → (year_of z ≡ pos y) × ((cycle_date z).month ≡ m) × ((cycle_date z).day ≡ d)
day_is z y m d h =
    let date = date_of (record { year = pos y; month = m; day = d }) h.calendar in
    subst (λ n. (year_of n ≡ pos y) × ((cycle_date n).month ≡ m) × ((cycle_date n).day ≡ d)) h.number (calendar_agrees date)

at_most : (a b : ℤ) → a ≤ℤ b → int_le a b ≡ true
at_most a b h = grind (arith, ints, h)

day_written : (z : ℤ) (text : List ℕ) → DatedDays → IsDateText z text → day_text z ≡ Some text
day_written z text days h =
    let range = (days z).0 (h.0, h.1, h.2, h.3) in
    let is = day_is z h.0 h.1 h.2 h.3 in
    let written : date_text (unsigned_abs (year_of z)) (cycle_date z).month (cycle_date z).day ≡ text =
    (λ i. date_text (unsigned_abs (is.0 i)) (is.1 i) (is.2 i)) ∙ sym h.4 in
    rw (at_most (neg_ℤ (pos 719528)) z range.0) (rw (at_most z (pos 2932896) range.1) (ap Some written))

day_unwritten : (z : ℤ) → DatedDays → ¬ IsDated z → day_text z ≡ None
day_unwritten z days never = by (int_le (neg_ℤ (pos 719528)) z) (int_le z (pos 2932896)) refl refl
  where
    by : (a b : Bool) → int_le (neg_ℤ (pos 719528)) z ≡ a → int_le z (pos 2932896) ≡ b
        → cond (a && b) (Some (date_text (unsigned_abs (year_of z)) (cycle_date z).month (cycle_date z).day)) None ≡ None
    by true true e f = absurd (never ((days z).1 (omega (arith, ints, e), omega (arith, ints, f))))
    by true false e f = refl
    by false b e f = refl

instant_written : (z : ℤ) (text : List ℕ) → DatedDays → IsTimestampText z text → instant_text z ≡ Some text
instant_written z text days h =
    let div = int_div_euclid-parts z 86_400_000_000 (omega arith) in
    let rem = int_rem_euclid-parts z 86_400_000_000 (omega arith) in
    let day : day_of z ≡ h.day = omega (arith, signed_arith, div, h.number, h.within) in
    let time : time_of z ≡ h.time = omega (arith, signed_arith, rem, div, h.number, h.within) in
    ap (λ d. option_map (λ date. date ++ time_text (time_of z)) (day_text d)) day
    ∙ ap (option_map (λ date. date ++ time_text (time_of z))) (day_written h.day h.date days h.dated)
    ∙ ap (λ t. Some (h.date ++ time_text t)) time ∙ ap Some (sym h.written)

instant_unwritten : (z : ℤ) → DatedDays → ¬ IsTimed z → instant_text z ≡ None
instant_unwritten z days never =
    ap (option_map (λ date. date ++ time_text (time_of z))) (day_unwritten (day_of z) days never)

pub kind_written : (k : WrittenKind) (z : ℤ) (text : List ℕ) → DatedDays
    → IsCellText (written_kind_of k) z text → stored_text k z ≡ Some text
kind_written Date z text days h = day_written z text days h
kind_written Timestamp z text days h = instant_written z text days h

pub kind_unwritten : (k : WrittenKind) (z : ℤ) → DatedDays → ¬ IsStored (written_kind_of k) z
    → stored_text k z ≡ None
kind_unwritten Date z days never = day_unwritten z days never
kind_unwritten Timestamp z days never = instant_unwritten z days never
