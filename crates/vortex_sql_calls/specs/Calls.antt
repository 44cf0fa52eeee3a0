-- The results of a call, row by row.
use Rattle.std.specs.Prelude.{◌≡◌, ℕ, ◌<◌, List, Option, Some, None, String, length, map, All}
use Rattle.std.specs.Prelude.{slice_index_or, slice_get}
use Rattle.std.specs.declared.alloc.Global.{Global}
use Rattle.vortex_types.specs.Values.{Value}
use Rattle.vortex_columns.specs.declared.cell.Cell.{Cell}
use Rattle.vortex_columns.specs.declared.cell.Cell.TheVariants as cell
use Rattle.vortex_columns.specs.Cells.{cell_value, IsCell}
use Rattle.vortex_columns.specs.ColumnView.{ColumnView, AreTyped}
use Rattle.vortex_interface.specs.Outcomes.{Outcome, gives, values_at}
use Rattle.vortex_sql_rows.specs.AnsweredRows.{text_or_null}

-- the cells have these values
pub record AreRowCells (vs : List Value) (cells : List Cell) : Type 0 where
  pub values : map cell_value cells ≡ vs
  pub whole : All IsCell cells

-- an item for each row, with its value; d is an item
pub record AreRows {A : Type 0} (value : A → Value) (d : A) (outcome : List Value → Outcome)
    (cs : List ColumnView) (n : ℕ) (items : List A) : Type 0 where
  pub count : length items ≡ n
  pub each : (i : ℕ) → i < n
      → outcome (values_at cs i) ≡ gives (value (slice_index_or items i d))

-- a cell for each row, or a text that is made
abbrev pub AnsweredRows : (List Value → Outcome) → List ColumnView → ℕ → List Cell → Type 0
AnsweredRows = AreRows cell_value cell.Null

abbrev pub MadeRows : (List Value → Outcome) → List ColumnView → ℕ
    → List (Option (String Global)) → Type 0
MadeRows = AreRows text_or_null None

-- each column has its type in so many rows
abbrev pub AreTypedBelow : ℕ → List ColumnView → ℕ → Type 0
AreTypedBelow m cs n = (k : ℕ) (c : ColumnView) → k < m → slice_get cs k ≡ Some c
    → AreTyped c.dtype c.rows × (length c.rows ≡ n)

abbrev pub EachTyped : List ColumnView → ℕ → Type 0
EachTyped cs n = (k : ℕ) (c : ColumnView) → slice_get cs k ≡ Some c
    → AreTyped c.dtype c.rows × (length c.rows ≡ n)
