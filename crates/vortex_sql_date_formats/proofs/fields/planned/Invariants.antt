use Rattle.std.proofs.Common.{◌≡◌}
use Rattle.vortex_sql_date_formats.specs.Fields.{no_fields, planned}
use Rattle.vortex_sql_date_formats.specs.Formats.{items_bound, items_from, items_of}
use Rattle.vortex_sql_date_formats.proofs.fields.planned.Given as goal

-- what the rest fills after the items so far
abbrev pub invariant-loop-item : goal.invariant-loop-item
invariant-loop-item l =
    planned (items_of l.format) no_fields ≡ planned (items_from l.is_quoted l.rest) l.fields

abbrev pub decreases-loop-item : goal.decreases-loop-item
decreases-loop-item l = items_bound l.is_quoted l.rest
