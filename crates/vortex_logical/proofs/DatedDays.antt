-- Each day from 0000-01-01 to 9999-12-31 has a number, and each number between theirs a day.
use Rattle.std.proofs.Common.{◌≡◌, ◌∙◌, ◌⊎◌, inl, inr, ℕ, ℤ, pos, zero, suc, ◌+◌, ◌-◌, ◌<◌, ◌≤◌, arith, ap, sym, subst}
use Rattle.std.specs.Prelude.{neg_ℤ, ◌≤ℤ◌, ◌+ℤ◌}
use Rattle.jiff_core.specs.Calendar.{days_from_civil, days_in_month}
use Rattle.std.specs.Int.{int_div_euclid}
use Rattle.jiff_core.proofs.SignedLemmas.{signed_arith, int_div_euclid-parts}
use Rattle.jiff_core.proofs.CalendarLemmas.{days_in_month_bounds, days_from_civil-day_count}
use Rattle.jiff_core.proofs.DateLemmas.{days_from_civil-day, days_from_civil-next_month, days_from_civil-next_year}
use Rattle.jiff_core.proofs.DateLemmas.{days_from_civil-max}
use borrow.Author.Differences.{up, down}
use Rattle.vortex_logical.specs.DateTexts.{IsDay, IsDated}
use Rattle.vortex_logical.proofs.DateLemmas.{first_count}

-- the day after within the month
same_month : (z : ℤ) (y m d : ℕ) → IsDay z y m d → d < days_in_month (pos y) m → IsDated (z +ℤ pos 1)
same_month z y m d h less =
    let c = h.calendar in
    let next : days_from_civil (pos y) m (d + 1) ≡ z +ℤ pos 1 =
    subst (λ n. days_from_civil (pos y) m (d + 1) ≡ n +ℤ pos 1) h.number
    (omega (arith, signed_arith, days_from_civil-day (pos y) m d (d + 1) c.2.0 (omega arith))) in
    (y, m, d + 1, record { calendar = (c.0, c.1, (omega arith, omega (arith, less))); number = next })

next_month : (z : ℤ) (y m d : ℕ) → IsDay z y m d → d ≡ days_in_month (pos y) m → m < 12 → IsDated (z +ℤ pos 1)
next_month z y m d h last less =
    let c = h.calendar in
    let first : 1 ≤ days_in_month (pos y) (m + 1) = omega (arith, (days_in_month_bounds (pos y) (m + 1)).1) in (
      y,
      m + 1,
      1,
      record {
        calendar = (c.0, (omega arith, omega (arith, less)), (omega arith, first));
        number = days_from_civil-next_month (pos y) m d c.1.0 last ∙ ap (λ n. n +ℤ pos 1) h.number;
      },
    )

next_year : (z : ℤ) (y d : ℕ) → IsDay z y 12 d → d ≡ 31 → y < 9999 → IsDated (z +ℤ pos 1)
next_year z y d h last less = (
  y + 1,
  1,
  1,
  record {
    calendar =
        ((omega (arith, signed_arith), omega (arith, signed_arith, less)), (omega arith, omega arith), (omega arith, omega arith));
    number =
        days_from_civil-next_year (pos y) (pos (y + 1)) (omega (arith, signed_arith)) (omega (arith, signed_arith))
        ∙ ap (λ n. n +ℤ pos 1) (ap (λ k. days_from_civil (pos y) 12 k) (sym last) ∙ h.number);
  },
)

not_last : (z : ℤ) (y d : ℕ) → IsDay z y 12 d → d ≡ 31 → z ≤ℤ pos 2932895 → y < 9999
not_last z y d h last few = by (either y)
  where
    either : (y : ℕ) → (y < 9999) ⊎ ((y ≡ 9999) ⊎ (9999 < y))
    either y = grind arith

    by : (y < 9999) ⊎ ((y ≡ 9999) ⊎ (9999 < y)) → y < 9999
    by (inl l) = l
    by (inr (inr l)) = absurd (omega (arith, signed_arith, h.calendar.0.1, l))
    by (inr (inl e)) =
        let same : z ≡ pos 2932896 =
        sym h.number ∙ (λ i. days_from_civil (pos (e i)) 12 (last i)) ∙ days_from_civil-max in
        absurd (omega (arith, signed_arith, same, few))

day_after : (z : ℤ) → IsDated z → z ≤ℤ pos 2932895 → IsDated (z +ℤ pos 1)
day_after z h few = by (either h.2 (days_in_month (pos h.0) h.1)) (either h.1 12)
  where
    either : (a b : ℕ) → (a < b) ⊎ (b ≤ a)
    either a b = grind arith

    by : (h.2 < days_in_month (pos h.0) h.1) ⊎ (days_in_month (pos h.0) h.1 ≤ h.2) → (h.1 < 12) ⊎ (12 ≤ h.1)
        → IsDated (z +ℤ pos 1)
    by (inl l) month = same_month z h.0 h.1 h.2 h.3 l
    by (inr l) (inl month) =
        next_month z h.0 h.1 h.2 h.3 (omega (arith, l, h.3.calendar.2.1)) month
    by (inr l) (inr month) =
        let twelve : h.1 ≡ 12 = omega (arith, month, h.3.calendar.1.1) in
        let day : IsDay z h.0 12 h.2 = subst (λ m. IsDay z h.0 m h.2) twelve h.3 in
        let last : h.2 ≡ 31 =
        omega (arith, day.calendar.2.1, subst (λ m. days_in_month (pos h.0) m ≤ h.2) twelve l) in
        next_year z h.0 h.2 day last (not_last z h.0 h.2 day last few)

first_day : IsDay (neg_ℤ (pos 719528)) 0 1 1
first_day = record {
  calendar = ((omega (arith, signed_arith), omega (arith, signed_arith)), (omega arith, omega arith), (omega arith, omega arith));
  number = omega (arith, signed_arith, days_from_civil-day_count (pos 0) 1 1, first_count);
}

counted : (k : ℕ) → k ≤ 3652424 → IsDated (pos k +ℤ neg_ℤ (pos 719528))
counted zero h = subst IsDated (omega (arith, signed_arith)) (0, 1, 1, first_day)
counted (suc k) h =
    subst IsDated (omega (arith, signed_arith))
    (day_after (pos k +ℤ neg_ℤ (pos 719528)) (counted k (omega (arith, h))) (omega (arith, signed_arith, h)))

pub in_range_dated : (z : ℤ) → neg_ℤ (pos 719528) ≤ℤ z → z ≤ℤ pos 2932896 → IsDated z
in_range_dated z low high =
    let k = up z + 719528 - down z in
    subst IsDated (omega (arith, signed_arith, low)) (counted k (omega (arith, signed_arith, low, high)))

-- ---- what is read

-- an instant of those years is in a day of them
pub instant_timed : (z : ℤ) → neg_ℤ (pos 62167219200000000) ≤ℤ z → z ≤ℤ pos 253402300799999999
    → IsDated (int_div_euclid z (pos 86400000000))
instant_timed z low high =
    let parts = int_div_euclid-parts z 86400000000 (omega arith) in
    in_range_dated (int_div_euclid z (pos 86400000000)) (omega (arith, signed_arith, parts, low)) (omega (arith, signed_arith, parts, high))
