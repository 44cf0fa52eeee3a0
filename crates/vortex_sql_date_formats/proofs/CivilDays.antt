-- Months and days that no year has.
use Rattle.std.proofs.Common.{◌≡◌, ◌<◌, ℕ, pos, None, arith}
use Rattle.std.proofs.lemmas.Bool.Decides.{nat_tests}
use Rattle.jiff_core.proofs.CalendarLemmas.{days_in_month_bounds}
use Rattle.vortex_sql_date_formats.specs.ReadInstants.{civil_day}

pub far_month : (y m d : ℕ) → 12 < m → civil_day y m d ≡ None
far_month y m d h = grind (arith, nat_tests, h)

pub far_day : (y m d : ℕ) → 31 < d → civil_day y m d ≡ None
far_day y m d h = grind (arith, nat_tests, h, days_in_month_bounds (pos y) m)
