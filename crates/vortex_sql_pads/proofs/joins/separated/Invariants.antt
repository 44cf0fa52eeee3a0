use Rattle.std.proofs.Common.{◌≡◌, ◌++◌, drop, map}
use Rattle.std.specs.Prelude.{string_bytes}
use denote.Text.{Utf8}
use denote.Shadow.{shadow}
use Rattle.vortex_columns.specs.Cells.{cell_value}
use Rattle.vortex_sql_pads.specs.Joins.{led, separated}
use Rattle.vortex_sql_pads.proofs.joins.separated.Given as goal

-- what is made so far, before the other texts
abbrev pub invariant-loop-cell : goal.invariant-loop-cell
invariant-loop-cell l =
    shadow (Utf8 l.before)
    × (separated l.separator (map cell_value l.cells)
    ≡ string_bytes l.made
    ++ led l.before l.separator (map cell_value (drop l.cell-index l.cells)))
