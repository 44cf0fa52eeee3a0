use Rattle.std.proofs.Common.{◌≡◌, ◌≤◌, length}
use Rattle.vortex_sql_date_formats.specs.Formats.{items_bound, items_from}
use Rattle.vortex_sql_date_formats.proofs.formats.after_quotes.Given as goal

abbrev pub invariant-loop-rest : goal.invariant-loop-rest
invariant-loop-rest l = record {
  same : items_from l.within l.rest ≡ items_from l.is_quoted l.format;
  bound : items_bound l.within l.rest ≤ items_bound l.is_quoted l.format;
}

abbrev pub decreases-loop-rest : goal.decreases-loop-rest
decreases-loop-rest l = length l.rest
