-- Results of the calls that read cells; the call's result is the last argument.
use Rattle.std.specs.Prelude.{◌≡◌, ℕ, List, map, length, Bool, true, Option, option_map, Result}
use Rattle.vortex_errors.specs.declared.error.VortexError.{VortexError}
use Rattle.vortex_errors.specs.declared.error.VortexError.TheVariants.{InvalidColumn}
use Rattle.vortex_errors.specs.Answers.{AnswersWhere}
use Rattle.vortex_types.specs.LogicalTypes.{LogicalType}
use Rattle.vortex_types.specs.Values.{Value}
use Rattle.vortex_columns.specs.ValidityView.{ValidityView, FitsRows}
use Rattle.vortex_columns.specs.ColumnView.{ColumnView}
use Rattle.vortex_cells.specs.CellValues.{value_of_text, cell_value, fit_column}
use Rattle.vortex_cells.specs.Cells.{item_or_null, IsMade}

module _ {X : Type 0} (value : X → Value) where
  -- the item with the value of the text, of nullable types and of others
  abbrev pub ReadsItem : (Bool → LogicalType) → List ℕ → Option X → Type 0
  ReadsItem kind w item = (n : Bool) → option_map value item ≡ value_of_text (kind n) w

  -- the same for a cell, which may be null
  abbrev pub ReadsCell : LogicalType → Option (List ℕ) → Option (Option X) → Type 0
  ReadsCell t c item = option_map (item_or_null value) item ≡ cell_value t c

  -- the column of the items' values, if the validity fits and each text fits in a column
  abbrev pub MakesColumn : (Bool → LogicalType) → ValidityView → List X
      → Result ColumnView VortexError → Type 0
  MakesColumn kind v items result =
      let values = map value items in
      AnswersWhere result (FitsRows v (length items) × (fit_column values ≡ true))
      (IsMade kind v values) InvalidColumn
