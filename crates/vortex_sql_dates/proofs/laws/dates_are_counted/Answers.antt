use Rattle.vortex_sql_dates.specs.CalendarLaws.{calendar_agrees}
use Rattle.vortex_sql_dates.proofs.laws.dates_are_counted.Goals as goal

pub returns : goal.returns
returns c = calendar_agrees
