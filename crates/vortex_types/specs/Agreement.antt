-- Agreement of two types, with or without nullability: the test that decides both equalities of
-- types.
use Rattle.std.specs.Prelude.{Bool, true, false, ◌&&◌, nat_eq}
use Rattle.std.specs.Cmp.Lexicographic.{pointwise}
use Rattle.vortex_types.specs.LogicalTypes.{LogicalType, null_type, bool_type, integer_type}
use Rattle.vortex_types.specs.LogicalTypes.{text_type, bytes_type, struct_type, list_type}
use Rattle.vortex_types.specs.LogicalTypes.{fixed_size_list_type, map_type, Fields, no_fields}
use Rattle.vortex_types.specs.LogicalTypes.{field}
use Rattle.vortex_types.specs.TypeEquality.{bool_eq, ptype_eq}

-- the same nullability, where it counts
abbrev pub nulls_agree : Bool → Bool → Bool → Bool
nulls_agree true n m = bool_eq n m
nulls_agree false n m = true

-- types without types inside
abbrev pub leaves_agree : Bool → LogicalType → LogicalType → Bool
leaves_agree e null_type null_type = true
leaves_agree e (bool_type n) (bool_type m) = nulls_agree e n m
leaves_agree e (integer_type p n) (integer_type q m) = ptype_eq p q && nulls_agree e n m
leaves_agree e (text_type n) (text_type m) = nulls_agree e n m
leaves_agree e (bytes_type n) (bytes_type m) = nulls_agree e n m
leaves_agree e t u = false

abbrev mutual
  pub types_agree : Bool → LogicalType → LogicalType → Bool
  types_agree e (struct_type fs n) (struct_type gs m) = fields_agree e fs gs && nulls_agree e n m
  types_agree e (list_type t n) (list_type u m) = types_agree e t u && nulls_agree e n m
  types_agree e (fixed_size_list_type t s n) (fixed_size_list_type u r m) =
      types_agree e t u && (nat_eq s r && nulls_agree e n m)
  types_agree e (map_type k v n) (map_type l w m) =
      types_agree e k l && (types_agree e v w && nulls_agree e n m)
  types_agree e t u = leaves_agree e t u

  pub fields_agree : Bool → Fields → Fields → Bool
  fields_agree e no_fields no_fields = true
  fields_agree e (field s t fs) (field r u gs) =
      pointwise nat_eq s r && (types_agree e t u && fields_agree e fs gs)
  fields_agree e fs gs = false
