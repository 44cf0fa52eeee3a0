-- The values of fields, which are bytes or null, as cells of a type.
use Rattle.std.specs.Prelude.{◌≡◌, Bool, ℕ, List, map, Option, Some, None, option_map}
use Rattle.std.specs.Prelude.{if◌then◌else◌}
use Rattle.std.specs.Str.{is_utf8}
use Rattle.std.specs.Option.{option_and_then}
use Rattle.vortex_types.specs.LogicalTypes.{LogicalType}
use Rattle.vortex_types.specs.Values.{Value}
use Rattle.vortex_columns.specs.ColumnView.{ColumnView}
use Rattle.vortex_cells.specs.CellValues.{cell_value, all_some, if_cells, column_from}
use Rattle.vortex_cells.specs.Cells.{item_or_null}

-- the cell of a field; none for bytes that are no text
abbrev pub field_cell : Option (List ℕ) → Option (Option (List ℕ))
field_cell None = Some None
field_cell (Some bs) = if is_utf8 bs then Some (Some bs) else None

-- its value
abbrev pub field_value : LogicalType → Option (List ℕ) → Option Value
field_value t f = option_and_then (cell_value t) (field_cell f)

abbrev pub field_values : LogicalType → List (Option (List ℕ)) → Option (List Value)
field_values t fs = all_some (map (field_value t) fs)

-- the column of the cells of fields
abbrev pub column_of_fields : LogicalType → List (Option (List ℕ)) → Option ColumnView
column_of_fields t fs =
    if_cells t (option_and_then (column_from t) (all_some (map field_cell fs)))

module _ {X : Type 0} (value : X → Value) where
  -- the item with the value of bytes, of nullable types and of others
  abbrev pub ReadsBytes : (Bool → LogicalType) → List ℕ → Option X → Type 0
  ReadsBytes kind bs item = (n : Bool) → option_map value item ≡ field_value (kind n) (Some bs)

  -- the same for a field, which may be null
  abbrev pub ReadsField : LogicalType → Option (List ℕ) → Option (Option X) → Type 0
  ReadsField t f item = option_map (item_or_null value) item ≡ field_value t f
