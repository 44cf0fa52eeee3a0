-- Null among the values of a type.
use Rattle.std.proofs.Common.{◌≡◌, true, false, refl}
use Rattle.vortex_types.specs.LogicalTypes.{LogicalType, null_type, bool_type, integer_type}
use Rattle.vortex_types.specs.LogicalTypes.{text_type, bytes_type, struct_type, list_type}
use Rattle.vortex_types.specs.LogicalTypes.{fixed_size_list_type, map_type, is_nullable}
use Rattle.vortex_types.specs.Values.{Value, null, truth, number, text, bytes, list, is_null}
use Rattle.vortex_types.specs.Typing.{HasType}

pub null_is : (v : Value) → is_null v ≡ true → v ≡ null
null_is null h = refl
null_is (truth b) h = cc
null_is (number z) h = cc
null_is (text bs) h = cc
null_is (bytes bs) h = cc
null_is (list vs) h = cc

-- a type without null has no null among its values
nullable_by : (t : LogicalType) → HasType t null → is_nullable t ≡ false → ⊥
nullable_by null_type h e = cc
nullable_by (bool_type n) h e = cc
nullable_by (integer_type p n) h e = cc
nullable_by (text_type n) h e = cc
nullable_by (bytes_type n) h e = cc
nullable_by (struct_type fs n) h e = cc
nullable_by (list_type t n) h e = cc
nullable_by (fixed_size_list_type t s n) h e = cc
nullable_by (map_type k v n) h e = cc

pub not_null : (t : LogicalType) (v : Value) → HasType t v → is_nullable t ≡ false
    → is_null v ≡ false
not_null t null h e = absurd (nullable_by t h e)
not_null t (truth b) h e = refl
not_null t (number z) h e = refl
not_null t (text bs) h e = refl
not_null t (bytes bs) h e = refl
not_null t (list vs) h e = refl
