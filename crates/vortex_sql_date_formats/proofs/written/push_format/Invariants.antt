use Rattle.std.proofs.Common.{◌≡◌, ◌++◌}
use Rattle.vortex_sql_date_formats.specs.Formats.{items_bound, items_from, items_of}
use Rattle.vortex_sql_date_formats.specs.WrittenFormats.{format_text}
use Rattle.vortex_sql_date_formats.proofs.written.push_format.Given as goal

-- what is written so far, before what the rest writes
abbrev pub invariant-loop-item : goal.invariant-loop-item
invariant-loop-item l =
    l.initial.out.items ++ format_text l.at (items_of l.format)
    ≡ l.out.items ++ format_text l.at (items_from l.is_quoted l.rest)

abbrev pub decreases-loop-item : goal.decreases-loop-item
decreases-loop-item l = items_bound l.is_quoted l.rest
