use Rattle.std.proofs.Common.{arith, to_z, of_z, w64}
use Rattle.jiff_core.specs.Calendar.{IsWithin}
use Rattle.jiff_core.proofs.SignedLemmas.{signed_casts}
use Rattle.vortex_sql_dates.proofs.PassedYears.{passed_year}
use Rattle.vortex_sql_dates.proofs.months.month_number.Goals as goal

year : (c : goal.After-year_of) → IsWithin 10_000_000 (to_z w64 (of_z w64 c.year_of.result))
year c = passed_year c.args.day c.year_of.result c.requires c.year_of.ensures

pub overflow_mul-result : goal.overflow_mul-result
overflow_mul-result c = omega (arith, signed_casts, passed_year c.args.day c.year_of.result c.requires c.year_of.ensures)

pub returns-clause-small : goal.returns-clause-small
returns-clause-small c =
    let y = passed_year c.args.day c.year_of.result c.requires c.year_of.ensures in
    let m = c.cycle_date.result.month_in in (
      omega (arith, signed_casts, y, m, c.from.ensures),
      omega (arith, signed_casts, y, m, c.from.ensures),
    )
