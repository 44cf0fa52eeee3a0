use Rattle.std.proofs.Common.{◌≡◌}
use Rattle.std.specs.List.{list_all}
use Rattle.vortex_sql_date_formats.specs.Formats.{items_bound, items_from, items_of}
use Rattle.vortex_sql_date_formats.specs.WrittenFormats.{is_known}
use Rattle.vortex_sql_date_formats.proofs.written.all_known.Given as goal

-- the items so far are known
abbrev pub invariant-loop-item : goal.invariant-loop-item
invariant-loop-item l =
    list_all is_known (items_of l.format) ≡ list_all is_known (items_from l.is_quoted l.rest)

abbrev pub decreases-loop-item : goal.decreases-loop-item
decreases-loop-item l = items_bound l.is_quoted l.rest
