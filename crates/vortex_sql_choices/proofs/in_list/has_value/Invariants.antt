use Rattle.std.proofs.Common.{◌≡◌, false, take}
use Rattle.std.specs.List.{list_any}
use Rattle.vortex_columns.specs.Cells.{cell_value}
use Rattle.vortex_sql_choices.specs.InList.{is_same}
use Rattle.vortex_sql_choices.proofs.in_list.has_value.Given as goal

-- none so far
abbrev pub invariant-loop-cell : goal.invariant-loop-cell
invariant-loop-cell l =
    list_any (λ c. is_same (cell_value l.value) (cell_value c)) (take l.cell-index l.list) ≡ false
