use Rattle.std.proofs.Common.{◌≡◌, ◌<◌, ℕ, length, slice_index_or}
use Rattle.vortex_columns.specs.declared.column.Column.{Column}
use Rattle.vortex_columns.proofs.column.constructors.all_have_len.Given as goal

abbrev pub invariant-loop-field : goal.invariant-loop-field
invariant-loop-field l = (j : ℕ) (d : Column) → j < l.field-index
    → length (slice_index_or l.field-items j d).rows ≡ l.len
