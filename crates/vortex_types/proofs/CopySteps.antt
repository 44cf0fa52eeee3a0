-- The steps of a copy, and their cost, as lists of them grow.
use Rattle.std.proofs.Common.{◌≡◌, ◌+◌, ℕ, suc, List, [], ◌∷◌, ◌++◌, map, reverse}
use Rattle.std.proofs.Common.{length, get_or, refl, sym, ap, ◌∙◌, arith, rules, String, Global}
use Rattle.std.proofs.Common.{Box, Bool}
use Rattle.std.proofs.Common.{string_bytes}
use Rattle.std.proofs.lemmas.List.{map-append, reverse-append, append-nil, append_assoc}
use Rattle.vortex_types.specs.LogicalTypes.{LogicalType, struct_type, list_type, map_type}
use Rattle.vortex_types.specs.LogicalTypes.{fixed_size_list_type}
use Rattle.vortex_types.specs.TypeOf.{type_of, fields_view, allows_null}
use Rattle.vortex_types.specs.TypeParts.{type_weight, type_weights}
use Rattle.vortex_types.specs.TypeCopies.{tops, effect, effects, more, cost, costs, named, wrapped}
use Rattle.vortex_types.specs.declared.dtype.DType.{DType, Struct, FixedSizeList, Map, the_lemmas}
use Rattle.vortex_types.specs.declared.dtype.DType as dt
use Rattle.vortex_types.specs.declared.dtype.StructFields.{StructFields}
use Rattle.vortex_types.specs.declared.dtype.Nullability.{Nullability}
use Rattle.vortex_types.specs.declared.dtype.copying.Step.{Step}
use Rattle.vortex_types.proofs.TypeViews.{fields_view_last}

pub tops_push : (ts : List DType) (t : DType) → tops (ts ++ t ∷ []) ≡ type_of t ∷ tops ts
tops_push ts t =
    ap reverse (map-append type_of ts (t ∷ [])) ∙ reverse-append (map type_of ts) (type_of t ∷ [])

pub effects_push : (ss : List Step) (s : Step) (ts : List LogicalType)
    → effects (ss ++ s ∷ []) ts ≡ effects ss (effect s ts)
effects_push [] s ts = refl
effects_push (r ∷ ss) s ts = ap (effect r) (effects_push ss s ts)

pub costs_push : (ss : List Step) (s : Step) → costs (ss ++ s ∷ []) ≡ costs ss + cost s
costs_push [] s = omega arith
costs_push (r ∷ ss) s = omega (arith, costs_push ss s)

pub ruleset steps = (tops_push, effects_push, costs_push)

pub listed_one : (ss new : List Step) (a : Step) (ts : List LogicalType) → new ≡ ss ++ a ∷ []
    → effects new ts ≡ effects ss (effect a ts)
listed_one ss new a ts e = ap (λ rs. effects rs ts) e ∙ effects_push ss a ts

pub listed_two : (ss one new : List Step) (a b : Step) (ts : List LogicalType)
    → one ≡ ss ++ a ∷ [] → new ≡ one ++ b ∷ []
    → effects new ts ≡ effects ss (effect a (effect b ts))
listed_two ss one new a b ts e f = listed_one one new b ts f ∙ listed_one ss one a (effect b ts) e

pub listed_three : (ss one two new : List Step) (a b d : Step) (ts : List LogicalType)
    → one ≡ ss ++ a ∷ [] → two ≡ one ++ b ∷ [] → new ≡ two ++ d ∷ []
    → effects new ts ≡ effects ss (effect a (effect b (effect d ts)))
listed_three ss one two new a b d ts e f g =
    listed_one two new d ts g ∙ listed_two ss one two a b (effect d ts) e f

pub cost_one : (ss new : List Step) (a : Step) → new ≡ ss ++ a ∷ [] → costs new ≡ costs ss + cost a
cost_one ss new a e = ap costs e ∙ costs_push ss a

-- the field at an index, and the fields after it
pub more_at : (fs rest : List (String Global × DType)) (f : String Global × DType)
    (ts : List LogicalType) → fs ≡ f ∷ rest
    → more rest (named (string_bytes f.0) (type_of f.1 ∷ ts)) ≡ more fs ts
more_at fs rest f ts e = sym (ap (λ gs. more gs ts) e)

pub weights_at : (fs rest : List (String Global × DType)) (f : String Global × DType)
    → fs ≡ f ∷ rest → type_weights fs ≡ suc (type_weight f.1 + type_weights rest)
weights_at fs rest f e = ap type_weights e

-- the last copy, placed in a type like its source
pub wrapped_list : (t e f : LogicalType) (n : Bool) (ts : List LogicalType)
    → t ≡ list_type e n → f ≡ e → wrapped t (f ∷ ts) ≡ t ∷ ts
wrapped_list t e f n ts h g =
    ap (λ u. wrapped u (f ∷ ts)) h ∙ ap (λ u. list_type u n ∷ ts) g ∙ ap (λ u. u ∷ ts) (sym h)

pub wrapped_fixed : (t e f : LogicalType) (s : ℕ) (n : Bool) (ts : List LogicalType)
    → t ≡ fixed_size_list_type e s n → f ≡ e → wrapped t (f ∷ ts) ≡ t ∷ ts
wrapped_fixed t e f s n ts h g =
    ap (λ u. wrapped u (f ∷ ts)) h ∙ ap (λ u. fixed_size_list_type u s n ∷ ts) g
    ∙ ap (λ u. u ∷ ts) (sym h)

pub wrapped_map : (t k v a b : LogicalType) (n : Bool) (ts : List LogicalType)
    → t ≡ map_type k v n → a ≡ k → b ≡ v → wrapped t (b ∷ a ∷ ts) ≡ t ∷ ts
wrapped_map t k v a b n ts h g f =
    ap (λ u. wrapped u (b ∷ a ∷ ts)) h ∙ ap (λ u. map_type u b n ∷ ts) g
    ∙ ap (λ u. map_type k u n ∷ ts) f ∙ ap (λ u. u ∷ ts) (sym h)

pub weight-Struct : (f : StructFields) (n : Nullability)
    → type_weight (Struct f n) ≡ suc (suc (type_weights f.fields.items))
weight-Struct f n = search (rules, the_lemmas)

pub weight-List : (t : Box DType Global) (n : Nullability)
    → type_weight (dt.List t n) ≡ suc (type_weight t.value)
weight-List t n = search (rules, the_lemmas)

pub weight-FixedSizeList : (t : Box DType Global) (s : ℕ) (n : Nullability)
    → type_weight (FixedSizeList t s n) ≡ suc (type_weight t.value)
weight-FixedSizeList t s n = search (rules, the_lemmas)

pub weight-Map : (k v : Box DType Global) (n : Nullability)
    → type_weight (Map k v n) ≡ suc (suc (type_weight k.value + type_weight v.value))
weight-Map k v n = search (rules, the_lemmas)

pub type_of-List : (t : Box DType Global) (n : Nullability)
    → type_of (dt.List t n) ≡ list_type (type_of t.value) (allows_null n)
type_of-List t n = search (rules, the_lemmas)

-- a struct with all the remaining fields
pub more_struct : (fs gs : List (String Global × DType)) (n : _) (ts : List LogicalType)
    → more gs (struct_type (fields_view fs) n ∷ ts) ≡ struct_type (fields_view (fs ++ gs)) n ∷ ts
more_struct fs [] n ts = sym (ap (λ hs. struct_type (fields_view hs) n ∷ ts) (append-nil fs))
more_struct fs (g ∷ gs) n ts =
    sym (ap (λ f. more gs (struct_type f n ∷ ts)) (fields_view_last fs g))
    ∙ more_struct (fs ++ g ∷ []) gs n ts
    ∙ ap (λ hs. struct_type (fields_view hs) n ∷ ts) (append_assoc fs (g ∷ []) gs)

pub one_there : (t : LogicalType) → [] ≡ t ∷ [] → ⊥
one_there t e = omega (arith, ap length e)

pub first_is : (t u : LogicalType) (ts us : List LogicalType) → t ∷ ts ≡ u ∷ us → t ≡ u
first_is t u ts us e = ap (λ vs. get_or vs 0 u) e
