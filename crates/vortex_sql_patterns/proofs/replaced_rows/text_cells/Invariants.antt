use Rattle.std.proofs.Common.{◌≡◌, map, take}
use Rattle.vortex_columns.specs.Cells.{cell_value}
use Rattle.vortex_sql_rows.specs.AnsweredRows.{text_or_null}
use Rattle.vortex_sql_patterns.proofs.replaced_rows.text_cells.Given as goal

-- the cells of the texts so far
abbrev pub invariant-loop-text : goal.invariant-loop-text
invariant-loop-text l =
    map cell_value l.cells.items ≡ map text_or_null (take l.text-index l.made)
