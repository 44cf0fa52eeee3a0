use Rattle.std.proofs.Common.{◌≡◌, drop, map}
use Rattle.vortex_types.specs.Values.{null}
use Rattle.vortex_columns.specs.Cells.{cell_value, IsCell}
use Rattle.vortex_sql_choices.specs.Extremes.{farthest}
use Rattle.vortex_sql_choices.proofs.extremes.ExtremeRowFn.answer.Given as goal

-- the farthest of all is that of the best so far and of those after it
abbrev pub invariant-loop-cell : goal.invariant-loop-cell
invariant-loop-cell l = record {
  kept :
      farthest l.self (cell_value l.best) (map cell_value (drop l.cell-index l.cells))
      ≡ farthest l.self null (map cell_value l.cells);
  whole : IsCell l.best;
}
