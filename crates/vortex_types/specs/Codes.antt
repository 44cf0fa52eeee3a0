-- Codes of values and types: each is encoded as a tree of numbers that can be decoded. No contract
-- cites this module.
use Rattle.std.specs.Prelude.{◌≡◌, ℕ, zero, suc, ℤ, pos, negsuc, Bool, true, false, List, [], ◌∷◌}
use Rattle.std.specs.Prelude.{refl}
use Rattle.std.specs.Coded.{Coded, code_by}
use Rattle.std.proofs.Common.{ap}
use base.Stored.{Gv, gnil, gnum, gcons}
use denote.Struct.Codes.{itself}
use Rattle.vortex_types.specs.declared.dtype.PType.{PType}
use Rattle.vortex_types.specs.declared.dtype.PType.TheVariants.{I8, I16, I32, I64, U8, U16, U32}
use Rattle.vortex_types.specs.declared.dtype.PType.TheVariants.{U64}
use Rattle.vortex_types.specs.LogicalTypes.{LogicalType, null_type, bool_type, integer_type}
use Rattle.vortex_types.specs.LogicalTypes.{text_type, bytes_type, struct_type, list_type}
use Rattle.vortex_types.specs.LogicalTypes.{fixed_size_list_type, map_type, Fields, no_fields}
use Rattle.vortex_types.specs.LogicalTypes.{field}
use Rattle.vortex_types.specs.Values.{Value, null, truth, number, text, bytes, list, Values}
use Rattle.vortex_types.specs.Values.{no_values, value}

abbrev pub number_in : Gv → ℕ
number_in gnil = 0
number_in (gnum n) = n
number_in (gcons a b) = 0

abbrev pub tree_of_bool : Bool → Gv
tree_of_bool false = gnil
tree_of_bool true = gnum 0

abbrev pub bool_in : Gv → Bool
bool_in gnil = false
bool_in g = true

bool_back : (b : Bool) → bool_in (tree_of_bool b) ≡ b
bool_back false = refl
bool_back true = refl

abbrev pub tree_of_int : ℤ → Gv
tree_of_int (pos n) = gnum n
tree_of_int (negsuc n) = gcons gnil (gnum n)

abbrev pub int_in : Gv → ℤ
int_in gnil = pos 0
int_in (gnum n) = pos n
int_in (gcons a b) = negsuc (number_in b)

int_back : (z : ℤ) → int_in (tree_of_int z) ≡ z
int_back (pos n) = refl
int_back (negsuc n) = refl

abbrev pub tree_of_numbers : List ℕ → Gv
tree_of_numbers [] = gnil
tree_of_numbers (n ∷ ns) = gcons (gnum n) (tree_of_numbers ns)

abbrev pub numbers_in : Gv → List ℕ
numbers_in (gcons a b) = number_in a ∷ numbers_in b
numbers_in g = []

numbers_back : (ns : List ℕ) → numbers_in (tree_of_numbers ns) ≡ ns
numbers_back [] = refl
numbers_back (n ∷ ns) = ap (λ ms. n ∷ ms) (numbers_back ns)

abbrev mutual
  pub tree_of_value : Value → Gv
  tree_of_value null = gnil
  tree_of_value (truth b) = gcons (gnum 0) (tree_of_bool b)
  tree_of_value (number z) = gcons (gnum 1) (tree_of_int z)
  tree_of_value (text ns) = gcons (gnum 2) (tree_of_numbers ns)
  tree_of_value (bytes ns) = gcons (gnum 3) (tree_of_numbers ns)
  tree_of_value (list vs) = gcons (gnum 4) (tree_of_values vs)

  pub tree_of_values : Values → Gv
  tree_of_values no_values = gnil
  tree_of_values (value v vs) = gcons (tree_of_value v) (tree_of_values vs)

abbrev mutual
  pub value_in : Gv → Value
  value_in (gcons (gnum zero) g) = truth (bool_in g)
  value_in (gcons (gnum (suc zero)) g) = number (int_in g)
  value_in (gcons (gnum (suc (suc zero))) g) = text (numbers_in g)
  value_in (gcons (gnum (suc (suc (suc zero)))) g) = bytes (numbers_in g)
  value_in (gcons (gnum (suc (suc (suc (suc zero))))) g) = list (values_in g)
  value_in g = null

  pub values_in : Gv → Values
  values_in (gcons a b) = value (value_in a) (values_in b)
  values_in g = no_values

mutual
  pub value_back : (v : Value) → value_in (tree_of_value v) ≡ v
  value_back null = refl
  value_back (truth b) = ap truth (bool_back b)
  value_back (number z) = ap number (int_back z)
  value_back (text ns) = ap text (numbers_back ns)
  value_back (bytes ns) = ap bytes (numbers_back ns)
  value_back (list vs) = ap list (values_back vs)

  values_back : (vs : Values) → values_in (tree_of_values vs) ≡ vs
  values_back no_values = refl
  values_back (value v vs) = λ i. value (value_back v i) (values_back vs i)

abbrev pub coded_value : Coded Value
coded_value = code_by Gv itself tree_of_value value_in value_back

abbrev pub number_of_ptype : PType → ℕ
number_of_ptype I8 = 0
number_of_ptype I16 = 1
number_of_ptype I32 = 2
number_of_ptype I64 = 3
number_of_ptype U8 = 4
number_of_ptype U16 = 5
number_of_ptype U32 = 6
number_of_ptype U64 = 7

abbrev pub ptype_numbered : ℕ → PType
ptype_numbered zero = I8
ptype_numbered (suc zero) = I16
ptype_numbered (suc (suc zero)) = I32
ptype_numbered (suc (suc (suc zero))) = I64
ptype_numbered (suc (suc (suc (suc zero)))) = U8
ptype_numbered (suc (suc (suc (suc (suc zero))))) = U16
ptype_numbered (suc (suc (suc (suc (suc (suc zero)))))) = U32
ptype_numbered n = U64

ptype_back : (p : PType) → ptype_numbered (number_of_ptype p) ≡ p
ptype_back I8 = refl
ptype_back I16 = refl
ptype_back I32 = refl
ptype_back I64 = refl
ptype_back U8 = refl
ptype_back U16 = refl
ptype_back U32 = refl
ptype_back U64 = refl

abbrev mutual
  pub tree_of_type : LogicalType → Gv
  tree_of_type null_type = gnil
  tree_of_type (bool_type n) = gcons (gnum 0) (tree_of_bool n)
  tree_of_type (integer_type p n) =
      gcons (gnum 1) (gcons (gnum (number_of_ptype p)) (tree_of_bool n))
  tree_of_type (text_type n) = gcons (gnum 2) (tree_of_bool n)
  tree_of_type (bytes_type n) = gcons (gnum 3) (tree_of_bool n)
  tree_of_type (struct_type fs n) = gcons (gnum 4) (gcons (tree_of_fields fs) (tree_of_bool n))
  tree_of_type (list_type t n) = gcons (gnum 5) (gcons (tree_of_type t) (tree_of_bool n))
  tree_of_type (fixed_size_list_type t s n) =
      gcons (gnum 6) (gcons (tree_of_type t) (gcons (gnum s) (tree_of_bool n)))
  tree_of_type (map_type k v n) =
      gcons (gnum 7) (gcons (tree_of_type k) (gcons (tree_of_type v) (tree_of_bool n)))

  pub tree_of_fields : Fields → Gv
  tree_of_fields no_fields = gnil
  tree_of_fields (field name t fs) =
      gcons (tree_of_numbers name) (gcons (tree_of_type t) (tree_of_fields fs))

abbrev mutual
  pub type_in : Gv → LogicalType
  type_in (gcons (gnum zero) g) = bool_type (bool_in g)
  type_in (gcons (gnum (suc zero)) (gcons p n)) =
      integer_type (ptype_numbered (number_in p)) (bool_in n)
  type_in (gcons (gnum (suc (suc zero))) g) = text_type (bool_in g)
  type_in (gcons (gnum (suc (suc (suc zero)))) g) = bytes_type (bool_in g)
  type_in (gcons (gnum (suc (suc (suc (suc zero))))) (gcons fs n)) =
      struct_type (fields_in fs) (bool_in n)
  type_in (gcons (gnum (suc (suc (suc (suc (suc zero)))))) (gcons t n)) =
      list_type (type_in t) (bool_in n)
  type_in (gcons (gnum (suc (suc (suc (suc (suc (suc zero))))))) (gcons t (gcons s n))) =
      fixed_size_list_type (type_in t) (number_in s) (bool_in n)
  type_in (gcons (gnum (suc (suc (suc (suc (suc (suc (suc zero)))))))) (gcons k (gcons v n))) =
      map_type (type_in k) (type_in v) (bool_in n)
  type_in g = null_type

  pub fields_in : Gv → Fields
  fields_in (gcons name (gcons t fs)) = field (numbers_in name) (type_in t) (fields_in fs)
  fields_in g = no_fields

mutual
  pub type_back : (t : LogicalType) → type_in (tree_of_type t) ≡ t
  type_back null_type = refl
  type_back (bool_type n) = ap bool_type (bool_back n)
  type_back (integer_type p n) = λ i. integer_type (ptype_back p i) (bool_back n i)
  type_back (text_type n) = ap text_type (bool_back n)
  type_back (bytes_type n) = ap bytes_type (bool_back n)
  type_back (struct_type fs n) = λ i. struct_type (fields_back fs i) (bool_back n i)
  type_back (list_type t n) = λ i. list_type (type_back t i) (bool_back n i)
  type_back (fixed_size_list_type t s n) =
      λ i. fixed_size_list_type (type_back t i) s (bool_back n i)
  type_back (map_type k v n) = λ i. map_type (type_back k i) (type_back v i) (bool_back n i)

  pub fields_back : (fs : Fields) → fields_in (tree_of_fields fs) ≡ fs
  fields_back no_fields = refl
  fields_back (field name t fs) =
      λ i. field (numbers_back name i) (type_back t i) (fields_back fs i)

abbrev pub coded_type : Coded LogicalType
coded_type = code_by Gv itself tree_of_type type_in type_back

abbrev pub coded_fields : Coded Fields
coded_fields = code_by Gv itself tree_of_fields fields_in fields_back
