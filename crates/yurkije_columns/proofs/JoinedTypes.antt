-- The type of rows that are put together.
use Rattle.std.proofs.Common.{◌≡◌, ℕ, Bool, true, false, List, refl, sym, ap, subst}
use Rattle.vortex_types.specs.declared.dtype.PType.TheVariants.{I8, I16, I32, I64, U8, U16, U32}
use Rattle.vortex_types.specs.declared.dtype.PType.TheVariants.{U64}
use Rattle.vortex_types.specs.LogicalTypes.{LogicalType, null_type, bool_type, integer_type}
use Rattle.vortex_types.specs.LogicalTypes.{text_type, bytes_type, struct_type, list_type}
use Rattle.vortex_types.specs.LogicalTypes.{fixed_size_list_type, map_type, is_bool_type}
use Rattle.vortex_types.specs.LogicalTypes.{is_nullable}
use Rattle.vortex_columns.specs.ColumnView.{IsIntegerType}
use Rattle.vortex_columns.specs.ValidityView.{form_allows_null}
use Rattle.vortex_arrow.specs.Layouts.{Layout, bits, numbers, offsets, views, layout_type}
use Rattle.yurkije_columns.specs.declared.joined.Values.{Values}
use Rattle.yurkije_columns.specs.declared.joined.Values.TheVariants as values
use Rattle.yurkije_columns.specs.Joining.{layout_joined, validity_in, AreOfType}

-- whether the type of a validity has null
pub allows : (b : Bool) (bytes : List ℕ) (n : ℕ)
    → form_allows_null (validity_in b bytes n).form ≡ b
allows true bytes n = refl
allows false bytes n = refl

-- values of a type make columns of it
pub type_made : (l : Layout) (t : LogicalType) → AreOfType l t → layout_type l (is_nullable t) ≡ t
type_made (bits bs) null_type h = cc
type_made (bits bs) (bool_type n) h = refl
type_made (bits bs) (integer_type p n) h = cc
type_made (bits bs) (text_type n) h = cc
type_made (bits bs) (bytes_type n) h = cc
type_made (bits bs) (struct_type fs n) h = cc
type_made (bits bs) (list_type t n) h = cc
type_made (bits bs) (fixed_size_list_type t s n) h = cc
type_made (bits bs) (map_type k v n) h = cc
type_made (numbers p xs) null_type h = absurd h
type_made (numbers p xs) (bool_type n) h = absurd h
type_made (numbers p xs) (integer_type q n) h = ap (λ r. integer_type r n) (sym h)
type_made (numbers p xs) (text_type n) h = absurd h
type_made (numbers p xs) (bytes_type n) h = absurd h
type_made (numbers p xs) (struct_type fs n) h = absurd h
type_made (numbers p xs) (list_type t n) h = absurd h
type_made (numbers p xs) (fixed_size_list_type t s n) h = absurd h
type_made (numbers p xs) (map_type k v n) h = absurd h
type_made (offsets b os bs) t h = absurd h
type_made (views b vs bs) t h = absurd h

-- a type with its own nullability
pub type_with : (l : Layout) (b : Bool) (t : LogicalType) → t ≡ layout_type l b → AreOfType l t
    → b ≡ is_nullable t
type_with (bits bs) b t e h = ap is_nullable (sym e)
type_with (numbers p xs) b t e h = ap is_nullable (sym e)
type_with (offsets x os bs) b t e h = absurd h
type_with (views x vs bs) b t e h = absurd h

-- the values are of the type of their columns
pub of_type : (vs : Values) (b : Bool) (t : LogicalType) → t ≡ layout_type (layout_joined vs) b
    → AreOfType (layout_joined vs) t
of_type (values.Bools bs) b t e = ap is_bool_type e
of_type (values.I8 xs) b t e = subst (IsIntegerType I8) (sym e) refl
of_type (values.I16 xs) b t e = subst (IsIntegerType I16) (sym e) refl
of_type (values.I32 xs) b t e = subst (IsIntegerType I32) (sym e) refl
of_type (values.I64 xs) b t e = subst (IsIntegerType I64) (sym e) refl
of_type (values.U8 xs) b t e = subst (IsIntegerType U8) (sym e) refl
of_type (values.U16 xs) b t e = subst (IsIntegerType U16) (sym e) refl
of_type (values.U32 xs) b t e = subst (IsIntegerType U32) (sym e) refl
of_type (values.U64 xs) b t e = subst (IsIntegerType U64) (sym e) refl
