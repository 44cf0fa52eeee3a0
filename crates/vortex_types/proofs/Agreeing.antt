-- The agreement test decides both equalities of types. With its steps over the fields of two
-- structs.
use Rattle.std.proofs.Common.{◌≡◌, ℕ, zero, suc, ◌+◌, ◌<◌, Bool, true, false, not, ◌&&◌, List, []}
use Rattle.std.proofs.Common.{◌∷◌, String, string_bytes, Global, length, get_or, drop, ap, refl}
use Rattle.std.proofs.Common.{sym, ◌∙◌, arith}
use Rattle.std.specs.Prelude.{nat_eq}
use Rattle.std.specs.Cmp.Lexicographic.{pointwise}
use Rattle.std.proofs.lemmas.List.{drop_more}
use Rattle.vortex_types.specs.LogicalTypes.{LogicalType, null_type, bool_type, integer_type}
use Rattle.vortex_types.specs.LogicalTypes.{text_type, bytes_type, struct_type, list_type}
use Rattle.vortex_types.specs.LogicalTypes.{fixed_size_list_type, map_type, Fields, no_fields}
use Rattle.vortex_types.specs.LogicalTypes.{field, fields_without_nullability, field_count}
use Rattle.vortex_types.specs.TypeEquality.{bool_eq, type_eq, fields_eq, alike_types}
use Rattle.vortex_types.specs.Agreement.{types_agree, fields_agree}
use Rattle.vortex_types.specs.TypeOf.{type_of, fields_view}
use Rattle.vortex_types.specs.TypeOf.{struct_fields}
use Rattle.vortex_types.proofs.TypeViews.{struct_fields-out}
use Rattle.vortex_types.specs.declared.dtype.DType.{DType}
use Rattle.vortex_types.specs.declared.dtype.StructFields.{StructFields}

mutual
  pub exactly : (t u : LogicalType) → types_agree true t u ≡ type_eq t u
  exactly null_type null_type = refl
  exactly (bool_type n) (bool_type m) = refl
  exactly (integer_type p n) (integer_type q m) = refl
  exactly (text_type n) (text_type m) = refl
  exactly (bytes_type n) (bytes_type m) = refl
  exactly (struct_type fs n) (struct_type gs m) = ap (λ b. b && bool_eq n m) (fields_exactly fs gs)
  exactly (list_type t n) (list_type u m) = ap (λ b. b && bool_eq n m) (exactly t u)
  exactly (fixed_size_list_type t s n) (fixed_size_list_type u r m) =
      ap (λ b. b && (nat_eq s r && bool_eq n m)) (exactly t u)
  exactly (map_type k v n) (map_type l w m) = λ i. exactly k l i && (exactly v w i && bool_eq n m)
  exactly t u = refl

  pub fields_exactly : (fs gs : Fields) → fields_agree true fs gs ≡ fields_eq fs gs
  fields_exactly no_fields no_fields = refl
  fields_exactly (field s t fs) (field r u gs) =
      λ i. pointwise nat_eq s r && (exactly t u i && fields_exactly fs gs i)
  fields_exactly fs gs = refl

mutual
  pub loosely : (t u : LogicalType) → types_agree false t u ≡ alike_types t u
  loosely null_type null_type = refl
  loosely (bool_type n) (bool_type m) = refl
  loosely (integer_type p n) (integer_type q m) = refl
  loosely (text_type n) (text_type m) = refl
  loosely (bytes_type n) (bytes_type m) = refl
  loosely (struct_type fs n) (struct_type gs m) = ap (λ b. b && true) (fields_loosely fs gs)
  loosely (list_type t n) (list_type u m) = ap (λ b. b && true) (loosely t u)
  loosely (fixed_size_list_type t s n) (fixed_size_list_type u r m) =
      ap (λ b. b && (nat_eq s r && true)) (loosely t u)
  loosely (map_type k v n) (map_type l w m) = λ i. loosely k l i && (loosely v w i && true)
  loosely t u = refl

  fields_loosely : (fs gs : Fields)
      → fields_agree false fs gs
      ≡ fields_eq (fields_without_nullability fs) (fields_without_nullability gs)
  fields_loosely no_fields no_fields = refl
  fields_loosely (field s t fs) (field r u gs) =
      λ i. pointwise nat_eq s r && (loosely t u i && fields_loosely fs gs i)
  fields_loosely fs gs = refl

pub other_counts : (e : Bool) (fs gs : Fields) → fields_agree e fs gs ≡ true
    → field_count fs ≡ field_count gs
other_counts e no_fields no_fields h = refl
other_counts e (field s t fs) (field r u gs) h =
    ap suc
    (other_counts e fs gs
    (last (pointwise nat_eq s r) (types_agree e t u) (fields_agree e fs gs) h))
  where
    last : (a b c : Bool) → (a && (b && c)) ≡ true → c ≡ true
    last true true c h = h
    last true false c h = cc
    last false b c h = cc
other_counts e no_fields (field r u gs) h = cc
other_counts e (field s t fs) no_fields h = cc

false_by : (b : Bool) → (b ≡ true → ⊥) → false ≡ b
false_by true h = absurd (h refl)
false_by false h = refl

-- structs with different field counts do not agree
pub counts_refute : (e : Bool) (fs gs : Fields) → (field_count fs ≡ field_count gs → ⊥)
    → false ≡ fields_agree e fs gs
counts_refute e fs gs h = false_by (fields_agree e fs gs) (λ a. h (other_counts e fs gs a))

-- agreement of the fields from index k on
abbrev pub agree_from : Bool → ℕ → List (String Global × DType) → List (String Global × DType)
    → Bool
agree_from e k fs gs = fields_agree e (fields_view (drop k fs)) (fields_view (drop k gs))

pub agree_from_more : (e : Bool) (k : ℕ) (fs gs : List (String Global × DType))
    (f g : String Global × DType)
    → k < length fs → k < length gs
    → agree_from e k fs gs
    ≡ (pointwise nat_eq (string_bytes (get_or fs k f).0) (string_bytes (get_or gs k g).0)
    && (types_agree e (type_of (get_or fs k f).1) (type_of (get_or gs k g).1)
    && agree_from e (k + 1) fs gs))
agree_from_more e k fs gs f g h l = rw (drop_more fs k f h, drop_more gs k g l) refl

pub agree_from_end : (e : Bool) (k : ℕ) (fs gs : List (String Global × DType)) → k ≡ length fs
    → length fs ≡ length gs → agree_from e k fs gs ≡ true
agree_from_end e k [] [] h l = ends k
  where
    ends : (k : ℕ) → agree_from e k [] [] ≡ true
    ends zero = refl
    ends (suc k) = refl
agree_from_end e zero (f ∷ fs) gs h l = absurd (omega arith)
agree_from_end e (suc k) (f ∷ fs) (g ∷ gs) h l =
    agree_from_end e k fs gs (omega arith) (omega arith)
agree_from_end e k [] (g ∷ gs) h l = absurd (omega arith)
agree_from_end e (suc k) (f ∷ fs) [] h l = absurd (omega arith)

pub struct_agrees : (e : Bool) (s o : StructFields)
    → fields_agree e (struct_fields s) (struct_fields o)
    ≡ agree_from e 0 s.fields.items o.fields.items
struct_agrees e s o = λ i. fields_agree e (struct_fields-out s i) (struct_fields-out o i)

not_false : (b : Bool) → not b ≡ true → b ≡ false
not_false true e = cc
not_false false e = refl

not_true : (b : Bool) → not b ≡ false → b ≡ true
not_true true e = refl
not_true false e = cc

-- t: a part agrees; n and r: the others do; a: what is left does
pub part_differs : (n t r a : Bool) → false ≡ (t && a) → false ≡ ((n && (t && r)) && a)
part_differs false t r a h = refl
part_differs true false r a h = refl
part_differs true true false a h = refl
part_differs true true true a h = h

-- what is left decides whether the part agrees
pub part_passed : (n t r a b : Bool) → n ≡ true → b ≡ (t && a)
    → (r && b) ≡ ((n && (t && r)) && a)
part_passed true true true a b h l = l
part_passed true true false a b h l = refl
part_passed true false true a b h l = l
part_passed true false false a b h l = refl
part_passed false t r a b h l = cc

-- two fields at one index
module _ (e : Bool) (k : ℕ) (fs gs : List (String Global × DType)) (f g : String Global × DType)
    (h : k < length fs) (l : k < length gs) (at : f ≡ get_or fs k f) (there : g ≡ get_or gs k g)
  where
    turn : agree_from e k fs gs
        ≡ (pointwise nat_eq (string_bytes f.0) (string_bytes g.0)
        && (types_agree e (type_of f.1) (type_of g.1) && agree_from e (k + 1) fs gs))
    turn =
        agree_from_more e k fs gs f g h l
        ∙ (λ i. pointwise nat_eq (string_bytes (sym at i).0) (string_bytes (sym there i).0)
        && (types_agree e (type_of (sym at i).1) (type_of (sym there i).1)
        && agree_from e (k + 1) fs gs))

    pub names_refute : (m n : List ℕ) → m ≡ string_bytes f.0 → n ≡ string_bytes g.0
        → not (pointwise nat_eq m n) ≡ true → agree_from e k fs gs ≡ false
    names_refute m n is that differ =
        turn
        ∙ ap (λ b. b && (types_agree e (type_of f.1) (type_of g.1) && agree_from e (k + 1) fs gs))
        ((λ i. pointwise nat_eq (sym is i) (sym that i))
        ∙ not_false (pointwise nat_eq m n) differ)

    pub types_refute : (a : Bool) → false ≡ (types_agree e (type_of f.1) (type_of g.1) && a)
        → false ≡ (agree_from e k fs gs && a)
    types_refute a h =
        part_differs (pointwise nat_eq (string_bytes f.0) (string_bytes g.0))
        (types_agree e (type_of f.1) (type_of g.1)) (agree_from e (k + 1) fs gs) a h
        ∙ sym (ap (λ b. b && a) turn)

    -- where the names are equal, what is left decides whether the types agree
    pub passed : (a b : Bool) (m n : List ℕ) → m ≡ string_bytes f.0 → n ≡ string_bytes g.0
        → not (pointwise nat_eq m n) ≡ false
        → b ≡ (types_agree e (type_of f.1) (type_of g.1) && a)
        → (agree_from e (k + 1) fs gs && b) ≡ (agree_from e k fs gs && a)
    passed a b m n is that same told =
        part_passed (pointwise nat_eq (string_bytes f.0) (string_bytes g.0))
        (types_agree e (type_of f.1) (type_of g.1)) (agree_from e (k + 1) fs gs) a b
        ((λ i. pointwise nat_eq (sym is i) (sym that i))
        ∙ not_true (pointwise nat_eq m n) same)
        told
        ∙ sym (ap (λ b. b && a) turn)
