use Rattle.std.proofs.Common.{◌<◌, ℕ, slice_index_or}
use Rattle.vortex_columns.specs.ColumnView.{AreTyped}
use Rattle.vortex_columns.specs.declared.column.Column.{Column}
use Rattle.vortex_columns.proofs.column.constructors.learn_types.Given as goal

abbrev pub invariant-loop-column : goal.invariant-loop-column
invariant-loop-column l = (j : ℕ) (d : Column) → j < l.column-index
    → AreTyped (slice_index_or l.column-items j d).dtype (slice_index_or l.column-items j d).rows
