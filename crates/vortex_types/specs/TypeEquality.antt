-- A test of the equality of two types.
use Rattle.std.specs.Prelude.{◌≡◌, Bool, true, false, ◌&&◌, nat_eq, refl}
use Rattle.std.proofs.Common.{sym, ap, ◌∙◌}
use Rattle.std.specs.Bool.{Decides}
use Rattle.std.specs.Cmp.Lexicographic.{pointwise, bytes_decides}
use Rattle.std.specs.Cmp.{unsigned_Decides}
use Rattle.vortex_types.specs.declared.dtype.PType.{PType}
use Rattle.vortex_types.specs.declared.dtype.PType.TheVariants.{I8, I16, I32, I64, U8, U16, U32}
use Rattle.vortex_types.specs.declared.dtype.PType.TheVariants.{U64}
use Rattle.vortex_types.specs.LogicalTypes.{LogicalType, null_type, bool_type, integer_type}
use Rattle.vortex_types.specs.LogicalTypes.{text_type, bytes_type, struct_type, list_type}
use Rattle.vortex_types.specs.LogicalTypes.{fixed_size_list_type, map_type, Fields, no_fields}
use Rattle.vortex_types.specs.LogicalTypes.{field, without_nullability}

abbrev pub bool_eq : Bool → Bool → Bool
bool_eq true b = b
bool_eq false true = false
bool_eq false false = true

abbrev pub ptype_eq : PType → PType → Bool
ptype_eq I8 I8 = true
ptype_eq I16 I16 = true
ptype_eq I32 I32 = true
ptype_eq I64 I64 = true
ptype_eq U8 U8 = true
ptype_eq U16 U16 = true
ptype_eq U32 U32 = true
ptype_eq U64 U64 = true
ptype_eq p q = false

abbrev mutual
  pub type_eq : LogicalType → LogicalType → Bool
  type_eq null_type null_type = true
  type_eq (bool_type n) (bool_type m) = bool_eq n m
  type_eq (integer_type p n) (integer_type q m) = ptype_eq p q && bool_eq n m
  type_eq (text_type n) (text_type m) = bool_eq n m
  type_eq (bytes_type n) (bytes_type m) = bool_eq n m
  type_eq (struct_type fs n) (struct_type gs m) = fields_eq fs gs && bool_eq n m
  type_eq (list_type t n) (list_type u m) = type_eq t u && bool_eq n m
  type_eq (fixed_size_list_type t s n) (fixed_size_list_type u r m) =
      type_eq t u && (nat_eq s r && bool_eq n m)
  type_eq (map_type k v n) (map_type l w m) = type_eq k l && (type_eq v w && bool_eq n m)
  type_eq t u = false

  pub fields_eq : Fields → Fields → Bool
  fields_eq no_fields no_fields = true
  fields_eq (field s t fs) (field r u gs) = pointwise nat_eq s r && (type_eq t u && fields_eq fs gs)
  fields_eq fs gs = false

-- types that agree in all but nullability, which is ignored at every level
abbrev pub alike_types : LogicalType → LogicalType → Bool
alike_types t u = type_eq (without_nullability t) (without_nullability u)

bool_decides : (a b : Bool) → Decides (bool_eq a b) (a ≡ b)
bool_decides true true = (λ h. refl, λ e. refl)
bool_decides true false = (λ h. cc, λ e. cc)
bool_decides false true = (λ h. cc, λ e. cc)
bool_decides false false = (λ h. refl, λ e. refl)

pub ptype_yes : (p q : PType) → ptype_eq p q ≡ true → p ≡ q
ptype_yes I8 I8 h = refl
ptype_yes I16 I16 h = refl
ptype_yes I32 I32 h = refl
ptype_yes I64 I64 h = refl
ptype_yes U8 U8 h = refl
ptype_yes U16 U16 h = refl
ptype_yes U32 U32 h = refl
ptype_yes U64 U64 h = refl
ptype_yes p q h = cc

pub ptype_refl : (p : PType) → ptype_eq p p ≡ true
ptype_refl I8 = refl
ptype_refl I16 = refl
ptype_refl I32 = refl
ptype_refl I64 = refl
ptype_refl U8 = refl
ptype_refl U16 = refl
ptype_refl U32 = refl
ptype_refl U64 = refl

bool_refl : (b : Bool) → bool_eq b b ≡ true
bool_refl true = refl
bool_refl false = refl

and_left : (a b : Bool) → (a && b) ≡ true → a ≡ true
and_left true b h = refl
and_left false b h = cc

and_right : (a b : Bool) → (a && b) ≡ true → b ≡ true
and_right true b h = h
and_right false b h = cc

both : (a b : Bool) → a ≡ true → b ≡ true → (a && b) ≡ true
both a b h k = (λ i. h i && k i)

mutual
  type_refl : (t : LogicalType) → type_eq t t ≡ true
  type_refl null_type = refl
  type_refl (bool_type n) = bool_refl n
  type_refl (integer_type p n) = both _ _ (ptype_refl p) (bool_refl n)
  type_refl (text_type n) = bool_refl n
  type_refl (bytes_type n) = bool_refl n
  type_refl (struct_type fs n) = both _ _ (fields_refl fs) (bool_refl n)
  type_refl (list_type t n) = both _ _ (type_refl t) (bool_refl n)
  type_refl (fixed_size_list_type t s n) =
      both _ _ (type_refl t) (both _ _ ((unsigned_Decides s s).1 refl) (bool_refl n))
  type_refl (map_type k v n) = both _ _ (type_refl k) (both _ _ (type_refl v) (bool_refl n))

  fields_refl : (fs : Fields) → fields_eq fs fs ≡ true
  fields_refl no_fields = refl
  fields_refl (field s t fs) =
      both _ _ ((bytes_decides s s).1 refl) (both _ _ (type_refl t) (fields_refl fs))

mutual
  type_yes : (t u : LogicalType) → type_eq t u ≡ true → t ≡ u
  type_yes null_type null_type h = refl
  type_yes (bool_type n) (bool_type m) h = ap bool_type ((bool_decides n m).0 h)
  type_yes (integer_type p n) (integer_type q m) h =
      λ i.
      integer_type (ptype_yes p q (and_left _ _ h) i)
      ((bool_decides n m).0 (and_right (ptype_eq p q) _ h) i)
  type_yes (text_type n) (text_type m) h = ap text_type ((bool_decides n m).0 h)
  type_yes (bytes_type n) (bytes_type m) h = ap bytes_type ((bool_decides n m).0 h)
  type_yes (struct_type fs n) (struct_type gs m) h =
      λ i.
      struct_type (fields_yes fs gs (and_left _ _ h) i)
      ((bool_decides n m).0 (and_right (fields_eq fs gs) _ h) i)
  type_yes (list_type t n) (list_type u m) h =
      λ i.
      list_type (type_yes t u (and_left _ _ h) i)
      ((bool_decides n m).0 (and_right (type_eq t u) _ h) i)
  type_yes (fixed_size_list_type t s n) (fixed_size_list_type u r m) h =
      let k = and_right (type_eq t u) _ h in
      λ i.
      fixed_size_list_type (type_yes t u (and_left _ _ h) i)
      ((unsigned_Decides s r).0 (and_left _ _ k) i)
      ((bool_decides n m).0 (and_right (nat_eq s r) _ k) i)
  type_yes (map_type k v n) (map_type l w m) h =
      let g = and_right (type_eq k l) _ h in
      λ i.
      map_type (type_yes k l (and_left _ _ h) i) (type_yes v w (and_left _ _ g) i)
      ((bool_decides n m).0 (and_right (type_eq v w) _ g) i)
  type_yes t u h = cc

  fields_yes : (fs gs : Fields) → fields_eq fs gs ≡ true → fs ≡ gs
  fields_yes no_fields no_fields h = refl
  fields_yes (field s t fs) (field r u gs) h =
      let k = and_right (pointwise nat_eq s r) _ h in
      λ i.
      field ((bytes_decides s r).0 (and_left _ _ h) i) (type_yes t u (and_left _ _ k) i)
      (fields_yes fs gs (and_right (type_eq t u) _ k) i)
  fields_yes fs gs h = cc

-- the test is true exactly where the types are the same
pub type_eq-decides : (t u : LogicalType) → Decides (type_eq t u) (t ≡ u)
type_eq-decides t u = (type_yes t u, λ e. ap (type_eq t) (sym e) ∙ type_refl t)

-- so is that of fields
pub fields_eq-decides : (fs gs : Fields) → Decides (fields_eq fs gs) (fs ≡ gs)
fields_eq-decides fs gs = (fields_yes fs gs, λ e. ap (fields_eq fs) (sym e) ∙ fields_refl fs)
