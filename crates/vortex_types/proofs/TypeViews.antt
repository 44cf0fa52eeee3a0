-- The type that a `DType` represents, level by level.
use Rattle.std.proofs.Common.{◌≡◌, ℕ, Box, zero, suc, ◌<◌, List, [], ◌∷◌, ◌++◌, String}
use Rattle.std.proofs.Common.{string_bytes, Global, length, get_or, ap, refl, ◌∙◌, arith, rules}
use Rattle.vortex_types.specs.LogicalTypes.{LogicalType, text_type, bytes_type, struct_type}
use Rattle.vortex_types.specs.LogicalTypes.{fixed_size_list_type, map_type, Fields}
use Rattle.vortex_types.specs.LogicalTypes.{field, field_count, field_type, with_field}
use Rattle.vortex_types.specs.TypeOf.{type_of, allows_null, fields_view, struct_fields, type_step}
use Rattle.vortex_types.specs.TypeOf.{fields_step}
use Rattle.vortex_types.specs.declared.dtype.Nullability.{Nullability}
use Rattle.vortex_types.specs.declared.dtype.DType.{DType, Utf8, Binary, Struct, FixedSizeList, Map}
use Rattle.vortex_types.specs.declared.dtype.DType.{the_lemmas}
use Rattle.vortex_types.specs.declared.dtype.DType.TheOpen.{StructFields-F}
use Rattle.vortex_types.specs.declared.dtype.StructFields.{StructFields, roll-StructFields}
use Rattle.vortex_types.specs.declared.dtype.StructFields.{out-StructFields, fold-roll-StructFields}
use Rattle.vortex_types.specs.declared.dtype.StructFields.{fold_out-StructFields}

pub struct_fields-roll : (x : StructFields-F DType StructFields)
    → struct_fields (roll-StructFields x) ≡ fields_view x.fields.items
struct_fields-roll = fold-roll-StructFields LogicalType Fields type_step fields_step

pub struct_fields-out : (s : StructFields)
    → struct_fields s ≡ fields_view (out-StructFields s).fields.items
struct_fields-out = fold_out-StructFields LogicalType Fields type_step fields_step

pub fields_view_last : (fs : List (String Global × DType)) (f : String Global × DType)
    → fields_view (fs ++ f ∷ []) ≡ with_field (fields_view fs) (string_bytes f.0) (type_of f.1)
fields_view_last [] f = refl
fields_view_last (g ∷ fs) f = ap (field (string_bytes g.0) (type_of g.1)) (fields_view_last fs f)

-- fields that agree so far, and one more
pub fields_view_push : (fs gs : List (String Global × DType)) (f g : String Global × DType)
    → fields_view fs ≡ fields_view gs → string_bytes f.0 ≡ string_bytes g.0
    → type_of f.1 ≡ type_of g.1 → fields_view (fs ++ f ∷ []) ≡ fields_view (gs ++ g ∷ [])
fields_view_push fs gs f g all name same =
    let e = fields_view_last fs f in
    let d = fields_view_last gs g in
    cc

pub fields_count : (fs : List (String Global × DType)) → field_count (fields_view fs) ≡ length fs
fields_count [] = refl
fields_count (f ∷ fs) = ap suc (fields_count fs)

pub struct_count : (s : StructFields) → field_count (struct_fields s) ≡ length s.fields.items
struct_count s = ap field_count (struct_fields-out s) ∙ fields_count s.fields.items

pub field_at : (fs : List (String Global × DType)) (k : ℕ) (d : String Global × DType)
    → k < length fs → field_type k (fields_view fs) ≡ type_of (get_or fs k d).1
field_at [] k d h = absurd (omega arith)
field_at (f ∷ fs) zero d h = refl
field_at (f ∷ fs) (suc k) d h = field_at fs k d (omega arith)

pub type_of-Struct : (f : StructFields) (n : Nullability)
    → type_of (Struct f n) ≡ struct_type (struct_fields f) (allows_null n)
type_of-Struct f n = search (rules, the_lemmas)

pub type_of-FixedSizeList : (t : Box DType Global) (s : ℕ) (n : Nullability)
    → type_of (FixedSizeList t s n) ≡ fixed_size_list_type (type_of t.value) s (allows_null n)
type_of-FixedSizeList t s n = search (rules, the_lemmas)

pub type_of-Map : (k v : Box DType Global) (n : Nullability)
    → type_of (Map k v n) ≡ map_type (type_of k.value) (type_of v.value) (allows_null n)
type_of-Map k v n = search (rules, the_lemmas)

pub type_of-Utf8 : (n : Nullability) → type_of (Utf8 n) ≡ text_type (allows_null n)
type_of-Utf8 n = search (rules, the_lemmas)

pub type_of-Binary : (n : Nullability) → type_of (Binary n) ≡ bytes_type (allows_null n)
type_of-Binary n = search (rules, the_lemmas)
