use Rattle.std.proofs.Common.{◌≡◌, ◌∙◌, ◌+ℤ◌, ℤ, ap, arith, to_z, of_z, w64, to_z-of_z}
use Rattle.std.specs.Int.{w128}
use Rattle.jiff_core.specs.Calendar.{IsWithin}
use Rattle.jiff_core.proofs.SignedLemmas.{signed_arith, signed_casts}
use Rattle.vortex_sql_dates.specs.CountedDays.{cycle_date}
use Rattle.vortex_sql_dates.specs.LaterMonths as later
use Rattle.vortex_sql_dates.proofs.months.months_later.Goals as goal

passed : (r n : ℤ) → IsWithin 150_000_000 r → IsWithin 1_000_000_000 n
    → to_z w64 (of_z w64 (to_z w64 (of_z w64 r) +ℤ to_z w64 (of_z w64 (to_z w128 (of_z w128 n)))))
    ≡ r +ℤ n
passed r n h k = omega (arith, signed_casts, h, k)

pub returns : goal.returns
returns c =
    let day : to_z w64 (of_z w64 c.args.day) ≡ c.args.day = to_z-of_z c.ranges.day in
    let n = to_z w128 (of_z w128 c.args.months) in
    let months : n ≡ c.args.months = to_z-of_z c.ranges.months in
    let near : IsWithin 1_000_000_000 c.args.months = (omega (arith, signed_arith, months, c.if-months-ltminus1000000000.false), omega (arith, signed_arith, months, c.if-months-gt1000000000.false)) in
    let sum = passed c.month_number.result c.args.months c.month_number.ensures.small near ∙ (λ i. (c.month_number.ensures.value ∙ ap later.month_number day) i +ℤ c.args.months) in
    let place = c.cycle_date.ensures.day ∙ ap (λ z. (cycle_date z).day) day in
    c.day_of_month.ensures ∙ (λ i. later.day_of_month (sum i) (place i))
