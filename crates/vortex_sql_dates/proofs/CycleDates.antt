-- The date with a day number is the one that is counted.
use Rattle.std.proofs.Common.{◌≡◌, ◌∙◌, ℤ, pos, sym, unsigned_abs}
use Rattle.std.specs.Int.{int_rem_euclid}
use Rattle.jiff_core.specs.Date.{epoch_day}
use Rattle.jiff_core.specs.declared.civil.date.Date.{Date}
use Rattle.jiff_core.proofs.DateLemmas.{epoch_day_injective}
use Rattle.vortex_sql_dates.specs.CountedDays.{cycle_date}
use Rattle.vortex_sql_dates.specs.CountedLaws.{cycle_counted, date_of}

pub same_date : (z : ℤ) (date : Date)
    → epoch_day date ≡ pos (unsigned_abs (int_rem_euclid z (pos 146_097)))
    → (date.year ≡ (cycle_date z).year) × (date.month ≡ (cycle_date z).month)
    × (date.day ≡ (cycle_date z).day)
same_date z date e =
    epoch_day_injective date (date_of (cycle_date z) (cycle_counted z).0)
    (e ∙ sym (cycle_counted z).1)
