-- The type of a `Shape`, and the fields of a struct.
use Rattle.std.specs.Prelude.{Bool, true, false}
use Rattle.vortex_types.specs.LogicalTypes.{LogicalType, struct_type}
use Rattle.vortex_types.specs.TypeOf.{type_of}
use Rattle.vortex_columns.specs.Printing.{entry_type}
use Rattle.vortex_columns.specs.declared.value_text.Shape.{Shape}
use Rattle.vortex_columns.specs.declared.value_text.Shape.TheVariants.{Of, Entry}

abbrev pub shape_type : Shape → LogicalType
shape_type (Of t) = type_of t.now
shape_type (Entry k v) = entry_type (type_of k.now) (type_of v.now)

abbrev pub is_struct : LogicalType → Bool
is_struct (struct_type fs n) = true
is_struct t = false
