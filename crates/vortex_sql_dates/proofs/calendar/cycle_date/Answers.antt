use Rattle.std.proofs.Common.{◌≡◌, pos, arith, unsigned_abs}
use Rattle.std.specs.Int.{int_rem_euclid}
use Rattle.jiff_core.specs.Date.{epoch_day}
use Rattle.jiff_core.proofs.SignedLemmas.{signed_casts, int_rem_euclid-parts}
use Rattle.vortex_sql_dates.proofs.CycleDates.{same_date}
use Rattle.vortex_sql_dates.proofs.calendar.cycle_date.Goals as goal

number : (c : goal.After-from_days_since_min)
    → epoch_day c.from_days_since_min.result ≡ pos (unsigned_abs (int_rem_euclid c.args.day (pos 146_097)))
number c =
    omega (arith, signed_casts, c.from_days_since_min.ensures, int_rem_euclid-parts c.args.day 146_097 (omega arith))

pub returns-clause-year : goal.returns-clause-year
returns-clause-year c = (same_date c.args.day c.from_days_since_min.result (number c)).0

pub returns-clause-month : goal.returns-clause-month
returns-clause-month c = (same_date c.args.day c.from_days_since_min.result (number c)).1

pub returns-clause-day : goal.returns-clause-day
returns-clause-day c = (same_date c.args.day c.from_days_since_min.result (number c)).2
