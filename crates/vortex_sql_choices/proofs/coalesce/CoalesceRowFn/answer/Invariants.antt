use Rattle.std.proofs.Common.{◌≡◌, map, drop}
use Rattle.vortex_columns.specs.Cells.{cell_value}
use Rattle.vortex_sql_choices.specs.Coalesce.{coalesced}
use Rattle.vortex_sql_choices.proofs.coalesce.CoalesceRowFn.answer.Given as goal

-- what is passed over is null
abbrev pub invariant-loop-cell : goal.invariant-loop-cell
invariant-loop-cell l =
    coalesced (map cell_value l.cells)
    ≡ coalesced (map cell_value (drop l.cell-index l.cells))
