use Rattle.std.proofs.Common.{◌≡◌, ◌∙◌, ℕ, ℤ, pos, neg_ℤ, Some, true, ap, arith, sym, to_z, of_z, to_z-of_z, FitsSigned, w16, w32, w64}
use Rattle.std.specs.Prelude.{int_le}
use Rattle.jiff_core.proofs.SignedLemmas.{int_div_euclid-parts, signed_arith, signed_casts}
use Rattle.jiff_core.specs.Calendar.{IsEpochDay}
use Rattle.vortex_sql_dates.specs.LaterMonths as later
use Rattle.vortex_sql_dates.proofs.months.day_of_month.Goals as goal

chosen : (m : ℤ) (d : ℕ) (z : ℤ) → int_le (neg_ℤ (pos 9999)) (later.month_year m) ≡ true
    → int_le (later.month_year m) (pos 9999) ≡ true
    → z ≡ later.day_in (later.month_year m) (later.month_in_year m) d → Some z ≡ later.day_of_month m d
chosen m d z f g e = rw f (rw g (ap Some e))

narrowed : (y : ℤ) → int_le (neg_ℤ (pos 9999)) y ≡ true → int_le y (pos 9999) ≡ true
    → to_z w16 (of_z w16 y) ≡ y
narrowed y f g = omega (arith, signed_casts, f, g)

passed_day : (z : ℤ) → IsEpochDay z → to_z w32 (of_z w32 z) ≡ z
passed_day z h = omega (arith, signed_casts, h)

pub returns-then-year-le9999 : goal.returns-then-year-le9999
returns-then-year-le9999 c =
    let f = c.if-year-geminus9999.true in
    let g = c.if-year-le9999.true in
    let month : to_z w64 (of_z w64 c.args.month) ≡ c.args.month = to_z-of_z c.ranges.month in
    let is : c.div_euclid-year.result ≡ later.month_year c.args.month = c.div_euclid-year.ensures ∙ ap later.month_year month in
    let fits : FitsSigned w64 c.div_euclid-year.result = rw is (omega (arith, signed_arith, c.ranges.month, int_div_euclid-parts c.args.month 12 (omega arith))) in
    let year = to_z-of_z fits ∙ is in
    let passed = narrowed _ f g ∙ year in
    let place = c.month_in_year.ensures.value ∙ ap later.month_in_year month in
    let day = passed_day c.day_in.result c.day_in.ensures.range ∙ c.day_in.ensures.value ∙ (λ i. later.day_in (passed i) (place i) c.args.day) in
    chosen c.args.month c.args.day _ (ap (λ y. int_le (neg_ℤ (pos 9999)) y) (sym year) ∙ f) (ap (λ y. int_le y (pos 9999)) (sym year) ∙ g) day
