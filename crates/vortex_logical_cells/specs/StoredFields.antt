-- Fields, which are bytes or null, as the stored values of a kind, and the columns of these.
use Rattle.std.specs.Prelude.{ℕ, List, map, Bool, false, Option, Some, None, option_map, is_some}
use Rattle.std.specs.Prelude.{if◌then◌else◌}
use Rattle.std.specs.Option.{option_and_then}
use Rattle.vortex_types.specs.LogicalTypes.{LogicalType, is_nullable}
use Rattle.vortex_types.specs.Values.{Value, null, number}
use Rattle.vortex_columns.specs.ColumnView.{ColumnView}
use Rattle.vortex_cells.specs.CellValues.{all_some, cell_fits, column_where}
use Rattle.vortex_cells.specs.Fields.{field_cell, column_of_fields}
use Rattle.vortex_logical.specs.declared.kind.Kind.{Kind}
use Rattle.vortex_logical.specs.declared.kind.Kind.TheVariants.{Plain}
use Rattle.vortex_logical.specs.Cells.{stored_of_text}
use Rattle.vortex_logical.specs.Kinds.{stored_type}

-- the value that a column of the kind stores for a field, with null or without: the integer of a
-- text of the kind
abbrev pub stored_value : Kind → Bool → Option (List ℕ) → Option Value
stored_value k n None = if n then Some null else None
stored_value k n (Some text) = option_map (λ z. number z) (stored_of_text k text)

abbrev pub stored_values : Kind → Bool → List (Option (List ℕ)) → Option (List Value)
stored_values k n fs = all_some (map (stored_value k n) fs)

-- the column of values, if there is a type for them
abbrev pub column_typed : Option LogicalType → Option (List Value) → Option ColumnView
column_typed None vs = None
column_typed (Some t) vs = option_and_then (column_where t) vs

-- the column of fields: plain, of that type; else of the type that the kind is stored in, with null
-- where that type has it
abbrev pub column_of_kind : Kind → LogicalType → List (Option (List ℕ)) → Option ColumnView
column_of_kind Plain t fs = column_of_fields t fs
column_of_kind k t fs =
    column_typed (stored_type k (is_nullable t)) (stored_values k (is_nullable t) fs)

-- the cell of a field is a value of the type
abbrev pub fits_as : LogicalType → Option (Option (List ℕ)) → Bool
fits_as t None = false
fits_as t (Some c) = cell_fits t c

-- the field is a value of the column
abbrev pub fits_kind : Kind → LogicalType → Option (List ℕ) → Bool
fits_kind Plain t f = fits_as t (field_cell f)
fits_kind k t f = is_some (stored_value k (is_nullable t) f)
