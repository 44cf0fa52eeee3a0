use Rattle.std.proofs.Common.{◌≡◌, drop, take}
use Rattle.std.specs.Prelude.{All}
use Rattle.vortex_columns.specs.ColumnView.{AreTyped}
use Rattle.vortex_interface.specs.Execution.{other_length}
use Rattle.vortex_functions.proofs.expression.execution.first_other_length.Given as goal

-- the columns so far have the row count, and rows of their types
abbrev pub invariant-loop-column : goal.invariant-loop-column
invariant-loop-column l =
    (other_length l.row_count l.columns ≡ other_length l.row_count (drop l.column-index l.columns))
    × All (λ c. AreTyped c.dtype c.rows) (take l.column-index l.columns)
