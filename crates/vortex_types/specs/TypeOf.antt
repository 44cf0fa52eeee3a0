-- The logical type that a `DType` represents.
use Rattle.std.specs.Prelude.{◌≡◌, ◌≢◌, Bool, true, false, List, [], ◌∷◌, String, string_bytes}
use Rattle.std.specs.Prelude.{length, map, AllPairs}
use Rattle.std.specs.List.{zip}
use Rattle.std.specs.declared.alloc.Global.{Global}
use Rattle.vortex_types.specs.declared.dtype.Nullability.{Nullability}
use Rattle.vortex_types.specs.declared.dtype.Nullability.TheVariants.{NonNullable, Nullable}
use Rattle.vortex_types.specs.declared.dtype.DType.{DType, fold-DType}
use Rattle.vortex_types.specs.declared.dtype.DType.TheOpen.{DType-F, StructFields-F}
use Rattle.vortex_types.specs.declared.dtype.StructFields.{StructFields, fold-StructFields}
use Rattle.vortex_types.specs.LogicalTypes.{LogicalType, null_type, bool_type, integer_type}
use Rattle.vortex_types.specs.LogicalTypes.{text_type, bytes_type, struct_type, list_type}
use Rattle.vortex_types.specs.LogicalTypes.{fixed_size_list_type, map_type, Fields, no_fields}
use Rattle.vortex_types.specs.LogicalTypes.{with_field}
use Rattle.vortex_types.specs.LogicalTypes.{field}

abbrev pub allows_null : Nullability → Bool
allows_null NonNullable = false
allows_null Nullable = true

-- named types, in declared order
abbrev pub fields_of : List (String Global × LogicalType) → Fields
fields_of [] = no_fields
fields_of (f ∷ fs) = field (string_bytes f.0) f.1 (fields_of fs)

-- one level, with each type inside already seen
abbrev pub type_step : DType-F LogicalType Fields → LogicalType
type_step DType-F.Null = null_type
type_step (DType-F.Bool n) = bool_type (allows_null n)
type_step (DType-F.Primitive p n) = integer_type p (allows_null n)
type_step (DType-F.Utf8 n) = text_type (allows_null n)
type_step (DType-F.Binary n) = bytes_type (allows_null n)
type_step (DType-F.Struct fs n) = struct_type fs (allows_null n)
type_step (DType-F.List t n) = list_type t.value (allows_null n)
type_step (DType-F.FixedSizeList t s n) = fixed_size_list_type t.value s (allows_null n)
type_step (DType-F.Map k v n) = map_type k.value v.value (allows_null n)

abbrev pub fields_step : StructFields-F LogicalType Fields → Fields
fields_step s = fields_of s.fields.items

abbrev pub type_of : DType → LogicalType
type_of = fold-DType LogicalType Fields type_step fields_step

abbrev pub struct_fields : StructFields → Fields
struct_fields = fold-StructFields LogicalType Fields type_step fields_step

abbrev pub fields_view : List (String Global × DType) → Fields
fields_view fs = fields_of (map (λ f. (f.0, type_of f.1)) fs)

-- names and types side by side
abbrev pub named_types : List (String Global) → List DType → Fields
named_types names types = fields_view (zip names types)

-- as many names as types, and distinct names
abbrev pub AllDiffer : List (String Global) → Type 0
AllDiffer = AllPairs (λ a b. string_bytes a ≢ string_bytes b)

abbrev pub AreNamed : List (String Global) → List DType → Type 0
AreNamed names types = (length names ≡ length types) × AllDiffer names

-- the fields with one more
abbrev pub AddsField : StructFields → String Global → DType → StructFields → Type 0
AddsField old name t new =
    struct_fields new ≡ with_field (struct_fields old) (string_bytes name) (type_of t)
