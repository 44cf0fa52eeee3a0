-- A column of cells.
use Rattle.std.specs.Prelude.{◌≡◌, ℕ, ◌<◌, List, length, slice_index_or, ℤ, pos, []}
use Rattle.vortex_types.specs.Typing.{HasType}
use Rattle.vortex_types.specs.LogicalTypes.{LogicalType}
use Rattle.vortex_types.specs.Values.{Value, number, text}
use Rattle.vortex_columns.specs.declared.cell.Cell.{Cell}
use Rattle.vortex_columns.specs.declared.cell.Cell.TheVariants as cell
use Rattle.vortex_columns.specs.Cells.{cell_value}

abbrev pub cell_row : List Cell → ℕ → Value
cell_row cells i = cell_value (slice_index_or cells i cell.Null)

-- each cell has the type
abbrev pub AreCellsOf : LogicalType → List Cell → Type 0
AreCellsOf t cells = (i : ℕ) → i < length cells → HasType t (cell_row cells i)

-- a number for each cell so far, which is the cell's where it has one
pub record AreNumbers (cells : List Cell) (n : ℕ) (zs : List ℤ) : Type 0 where
  pub count : length zs ≡ n
  pub each : (k : ℕ) → k < n → (z : ℤ) → cell_row cells k ≡ number z
      → slice_index_or zs k (pos 0) ≡ z

-- a text for each cell so far, which is the cell's where it has one
pub record AreTexts (cells : List Cell) (n : ℕ) (ts : List (List ℕ)) : Type 0 where
  pub count : length ts ≡ n
  pub each : (k : ℕ) → k < n → (bs : List ℕ) → cell_row cells k ≡ text bs
      → slice_index_or ts k [] ≡ bs
