-- Columns whose values are stored one next to another.
use Rattle.std.specs.Prelude.{◌≡◌, ◌<◌, ◌+◌, ◌^◌, Bool, true, false}
use Rattle.vortex_arrow.specs.declared.column.ArrowColumn.{ArrowColumn}
use Rattle.vortex_arrow.specs.Layouts.{Layout, bits, numbers, layout_of}

abbrev pub is_flat_layout : Layout → Bool
is_flat_layout (bits bs) = true
is_flat_layout (numbers p xs) = true
is_flat_layout l = false

-- truth values or integers, whose end a usize holds
pub record IsFlat (c : ArrowColumn) : Type 0 where
  pub values : is_flat_layout (layout_of c.values) ≡ true
  pub end : c.offset + c.length < 2 ^ 64
