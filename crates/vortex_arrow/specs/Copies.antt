-- A column that was copied, as a caller's column again.
use Rattle.std.specs.Borrow.{Bor}
use Rattle.std.specs.Prelude.{◌≡◌, ℕ, List, length, map, Some}
use Rattle.vortex_types.specs.LogicalTypes.{is_nullable}
use Rattle.vortex_views.specs.Collected.{HaveRoom}
use Rattle.vortex_columns.specs.ColumnView.{ColumnView}
use Rattle.vortex_arrow.specs.declared.column.ArrowColumn.{ArrowColumn}
use Rattle.vortex_arrow.specs.declared.column.ArrowValues.{ArrowValues}
use Rattle.vortex_arrow.specs.Layouts.{layout_of, layout_type}
use Rattle.vortex_arrow.specs.Columns.{arrow_column, IsWellFormed}
use Rattle.vortex_arrow.specs.Written.{AreCopied, value_bytes}

-- the buffers of a copy from their first item on, with what the column's type says of null
abbrev pub copy_of : ColumnView → Bor (List ℕ) → ArrowValues → ArrowColumn
copy_of c validity values =
    record {
      nullable = is_nullable c.dtype;
      length = length c.rows;
      offset = 0;
      validity = Some validity;
      values = values;
    }

-- the column's rows are copied into buffers of its type
pub record IsCopy (c : ColumnView) (validity : Bor (List ℕ)) (values : ArrowValues) : Type 0 where
  pub dtype : layout_type (layout_of values) (is_nullable c.dtype) ≡ c.dtype
  pub copied : AreCopied c.rows validity.now (layout_of values)

-- views can be made of the rows, if they are texts or byte strings
abbrev pub RowsHaveRoom : ColumnView → Type 0
RowsHaveRoom c = HaveRoom (map value_bytes c.rows)

-- the copy is read back: its buffers are well formed, and say the column's type and its rows
pub record IsReadBack (c : ColumnView) (a : ArrowColumn) : Type 0 where
  pub formed : IsWellFormed a
  pub dtype : (arrow_column a).dtype ≡ c.dtype
  pub rows : (arrow_column a).rows ≡ c.rows
