use Rattle.std.proofs.Common.{◌≡◌, length}
use Rattle.vortex_columns.specs.ColumnEquality.{rows_eq}
use Rattle.vortex_columns.proofs.column.Column.has_rows_of.Given as goal

abbrev pub invariant-loop-cell : goal.invariant-loop-cell
invariant-loop-cell l = rows_eq l.rows l.others ≡ rows_eq l.self.rows l.other.rows

abbrev pub decreases-loop-cell : goal.decreases-loop-cell
decreases-loop-cell l = length l.rows
