use Rattle.std.proofs.Common.{◌≡◌, ◌++◌, drop, map}
use Rattle.std.specs.Prelude.{string_bytes}
use Rattle.vortex_columns.specs.Cells.{cell_value}
use Rattle.vortex_sql_texts.specs.Concats.{texts_of}
use Rattle.vortex_sql_texts.proofs.concats.texts_of.Given as goal

-- what is made so far, before the other texts
abbrev pub invariant-loop-cell : goal.invariant-loop-cell
invariant-loop-cell l =
    texts_of (map cell_value l.cells)
    ≡ string_bytes l.made ++ texts_of (map cell_value (drop l.cell-index l.cells))
