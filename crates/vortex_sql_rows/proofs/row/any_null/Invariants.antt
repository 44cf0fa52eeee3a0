use Rattle.std.proofs.Common.{◌≡◌, false, take}
use Rattle.std.specs.List.{list_any}
use Rattle.vortex_types.specs.Values.{is_null}
use Rattle.vortex_columns.specs.Cells.{cell_value}
use Rattle.vortex_sql_rows.proofs.row.any_null.Given as goal

-- none so far
abbrev pub invariant-loop-cell : goal.invariant-loop-cell
invariant-loop-cell l = list_any (λ c. is_null (cell_value c)) (take l.cell-index l.cells) ≡ false
