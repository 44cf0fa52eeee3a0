-- Cast of a column of Bool.
use Rattle.std.specs.Prelude.{length, true}
use Rattle.vortex_types.specs.LogicalTypes.{bool_type}
use Rattle.vortex_columns.specs.ColumnView.{ColumnView, row}
use Rattle.vortex_kernels.specs.Rows.{HasRows}

-- the rows of the input, as nullable Bool
abbrev pub HasCastRows : ColumnView → ColumnView → Type 0
HasCastRows c = HasRows (bool_type true) (length c.rows) (λ i. row c.rows i)
