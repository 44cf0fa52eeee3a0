-- How types are printed, in the bytes of UTF-8.
use Rattle.std.specs.Prelude.{ℕ, List, [], ◌∷◌, ◌++◌, codes, if◌then◌else◌}
use Rattle.std.specs.Fmt.{decimal}
use Rattle.vortex_types.specs.LogicalTypes.{LogicalType, null_type, bool_type, integer_type}
use Rattle.vortex_types.specs.LogicalTypes.{text_type, bytes_type, struct_type, list_type}
use Rattle.vortex_types.specs.LogicalTypes.{fixed_size_list_type, map_type, Fields, no_fields}
use Rattle.vortex_types.specs.LogicalTypes.{field, is_nullable}
use Rattle.vortex_types.specs.TypeTexts.{ptype_text}
use Rattle.vortex_types.specs.Texts.{joined, comma}

-- the mark of a type that has null; Null needs none
abbrev pub null_mark : LogicalType → List ℕ
null_mark null_type = []
null_mark t = if is_nullable t then codes "?" else []

-- what comes before the types inside; everything but the mark if there are none
abbrev pub opening : LogicalType → List ℕ
opening null_type = codes "null"
opening (bool_type n) = codes "bool"
opening (integer_type p n) = ptype_text p
opening (text_type n) = codes "utf8"
opening (bytes_type n) = codes "binary"
opening (struct_type fs n) = codes "struct{"
opening (list_type t n) = codes "list["
opening (fixed_size_list_type t size n) = codes "list["
opening (map_type k v n) = codes "map["

-- what follows them
abbrev pub closing : LogicalType → List ℕ
closing (struct_type fs n) = codes "}"
closing (list_type t n) = codes "]"
closing (fixed_size_list_type t size n) = codes "]"
closing (map_type k v n) = codes "]"
closing t = []

abbrev mutual
  -- a type without its mark
  pub kind_text : LogicalType → List ℕ
  kind_text null_type = codes "null"
  kind_text (bool_type n) = codes "bool"
  kind_text (integer_type p n) = ptype_text p
  kind_text (text_type n) = codes "utf8"
  kind_text (bytes_type n) = codes "binary"
  kind_text (struct_type fs n) =
      codes "struct{" ++ joined comma (field_type_texts fs) ++ codes "}"
  kind_text (list_type t n) = codes "list[" ++ (kind_text t ++ null_mark t) ++ codes "]"
  kind_text (fixed_size_list_type t size n) =
      codes "list[" ++ (kind_text t ++ null_mark t) ++ codes "; " ++ decimal size ++ codes "]"
  kind_text (map_type k v n) =
      codes "map[" ++ (kind_text k ++ null_mark k) ++ codes ", " ++ (kind_text v ++ null_mark v)
      ++ codes "]"

  -- each field's name, then its type
  pub field_type_texts : Fields → List (List ℕ)
  field_type_texts no_fields = []
  field_type_texts (field name t fs) =
      (name ++ codes ": " ++ (kind_text t ++ null_mark t)) ∷ field_type_texts fs

abbrev pub type_text : LogicalType → List ℕ
type_text t = kind_text t ++ null_mark t
