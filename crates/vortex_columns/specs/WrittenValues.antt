-- The pieces in which the text of a list, a map or a struct is written.
use Rattle.std.specs.Prelude.{ℕ, List, [], ◌++◌, length, min, codes}
use Rattle.vortex_types.specs.LogicalTypes.{LogicalType, struct_type, field_count, field_type}
use Rattle.vortex_types.specs.FieldNames.{field_name}
use Rattle.vortex_types.specs.Values.{Value}
use Rattle.vortex_columns.specs.Printing.{element_type}

abbrev pub opening : LogicalType → List ℕ
opening (struct_type fs n) = codes "{"
opening t = codes "["

abbrev pub closing : LogicalType → List ℕ
closing (struct_type fs n) = codes "}"
closing t = codes "]"

-- how many of the values are written: for a struct at most one for each field
abbrev pub count_written : LogicalType → List Value → ℕ
count_written (struct_type fs n) vs = min (length vs) (field_count fs)
count_written t vs = length vs

-- a field's name, before its value
abbrev pub name_before : ℕ → LogicalType → List ℕ
name_before k (struct_type fs n) = field_name k fs ++ codes ": "
name_before k t = []

-- the type of the value at index k
abbrev pub inner_type : ℕ → LogicalType → LogicalType
inner_type k (struct_type fs n) = field_type k fs
inner_type k t = element_type t
