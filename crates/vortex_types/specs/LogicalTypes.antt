-- Logical types: what kind of value a row holds, whatever the memory layout.
use Rattle.std.specs.Prelude.{ℕ, zero, suc, max, List, Bool, true, false, Option, Some, None}
use Rattle.std.specs.Prelude.{nat_eq, if◌then◌else◌}
use Rattle.std.specs.Cmp.Lexicographic.{pointwise}
use Rattle.vortex_types.specs.declared.dtype.PType.{PType}

-- The flag in a type is true where the type has null. A struct's fields are in declared order, each
-- a name and a type.
mutual
  pub data LogicalType : Type 0 where
    null_type : LogicalType
    bool_type : Bool → LogicalType
    integer_type : PType → Bool → LogicalType
    text_type : Bool → LogicalType
    bytes_type : Bool → LogicalType
    struct_type : Fields → Bool → LogicalType
    list_type : LogicalType → Bool → LogicalType
    fixed_size_list_type : LogicalType → ℕ → Bool → LogicalType
    map_type : LogicalType → LogicalType → Bool → LogicalType

  pub data Fields : Type 0 where
    no_fields : Fields
    field : List ℕ → LogicalType → Fields → Fields

-- whether null is one of the type's values
abbrev pub is_nullable : LogicalType → Bool
is_nullable null_type = true
is_nullable (bool_type n) = n
is_nullable (integer_type p n) = n
is_nullable (text_type n) = n
is_nullable (bytes_type n) = n
is_nullable (struct_type fs n) = n
is_nullable (list_type t n) = n
is_nullable (fixed_size_list_type t s n) = n
is_nullable (map_type k v n) = n

-- the type with another nullability at the top; Null is unchanged
abbrev pub with_nullability : LogicalType → Bool → LogicalType
with_nullability null_type m = null_type
with_nullability (bool_type n) m = bool_type m
with_nullability (integer_type p n) m = integer_type p m
with_nullability (text_type n) m = text_type m
with_nullability (bytes_type n) m = bytes_type m
with_nullability (struct_type fs n) m = struct_type fs m
with_nullability (list_type t n) m = list_type t m
with_nullability (fixed_size_list_type t s n) m = fixed_size_list_type t s m
with_nullability (map_type k v n) m = map_type k v m

-- the type made non-nullable at every level
abbrev mutual
  pub without_nullability : LogicalType → LogicalType
  without_nullability null_type = null_type
  without_nullability (bool_type n) = bool_type false
  without_nullability (integer_type p n) = integer_type p false
  without_nullability (text_type n) = text_type false
  without_nullability (bytes_type n) = bytes_type false
  without_nullability (struct_type fs n) = struct_type (fields_without_nullability fs) false
  without_nullability (list_type t n) = list_type (without_nullability t) false
  without_nullability (fixed_size_list_type t s n) =
      fixed_size_list_type (without_nullability t) s false
  without_nullability (map_type k v n) =
      map_type (without_nullability k) (without_nullability v) false

  pub fields_without_nullability : Fields → Fields
  fields_without_nullability no_fields = no_fields
  fields_without_nullability (field name t fs) =
      field name (without_nullability t) (fields_without_nullability fs)

abbrev pub is_bool_type : LogicalType → Bool
is_bool_type (bool_type n) = true
is_bool_type t = false

abbrev pub is_text_type : LogicalType → Bool
is_text_type (text_type n) = true
is_text_type t = false

abbrev pub is_integer_type : LogicalType → Bool
is_integer_type (integer_type p n) = true
is_integer_type t = false

abbrev pub field_count : Fields → ℕ
field_count no_fields = 0
field_count (field name t fs) = suc (field_count fs)

-- one more field at the end
abbrev pub with_field : Fields → List ℕ → LogicalType → Fields
with_field no_fields name t = field name t no_fields
with_field (field n u fs) name t = field n u (with_field fs name t)

-- the type of a field, by its index
abbrev pub field_type : ℕ → Fields → LogicalType
field_type k no_fields = null_type
field_type zero (field name t fs) = t
field_type (suc k) (field name t fs) = field_type k fs

-- how deep types nest
abbrev mutual
  pub type_depth : LogicalType → ℕ
  type_depth null_type = 0
  type_depth (bool_type n) = 0
  type_depth (integer_type p n) = 0
  type_depth (text_type n) = 0
  type_depth (bytes_type n) = 0
  type_depth (struct_type fs n) = suc (fields_depth fs)
  type_depth (list_type t n) = suc (type_depth t)
  type_depth (fixed_size_list_type t s n) = suc (type_depth t)
  type_depth (map_type k v n) = suc (max (type_depth k) (type_depth v))

  pub fields_depth : Fields → ℕ
  fields_depth no_fields = 0
  fields_depth (field name t fs) = max (type_depth t) (fields_depth fs)

-- the first field with a name: how many come before it, and its type
abbrev pub after_one : Option (ℕ × LogicalType) → Option (ℕ × LogicalType)
after_one None = None
after_one (Some p) = Some (suc p.0, p.1)

abbrev pub find_field : List ℕ → Fields → Option (ℕ × LogicalType)
find_field name no_fields = None
find_field name (field n t fs) =
    if pointwise nat_eq n name then Some (0, t) else after_one (find_field name fs)
