use Rattle.std.proofs.Common.{◌≡◌}
use Rattle.vortex_sql_date_formats.specs.Fields.{no_fields}
use Rattle.vortex_sql_date_formats.specs.Formats.{items_bound, items_from, items_of}
use Rattle.vortex_sql_date_formats.specs.ReadFormats.{read_items}
use Rattle.vortex_sql_date_formats.proofs.read.read_fields.Given as goal

-- what the rest of the text has by the rest of the format
abbrev pub invariant-loop-item : goal.invariant-loop-item
invariant-loop-item l =
    read_items (items_of l.format) l.text no_fields
    ≡ read_items (items_from l.is_quoted l.items) l.rest l.fields

abbrev pub decreases-loop-item : goal.decreases-loop-item
decreases-loop-item l = items_bound l.is_quoted l.items
