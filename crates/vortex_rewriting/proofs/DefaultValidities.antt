-- The default validity of a call, from its children's types made non-nullable.
use Rattle.std.proofs.Common.{◌≡◌, ℕ, zero, suc, ◌+◌, Bool, true, false, not, List, [], ◌∷◌, ◌++◌}
use Rattle.std.proofs.Common.{length, map, take, Option, Some, None, refl, sym, ap, ◌∙◌, add-one}
use Rattle.std.specs.Prelude.{slice_get, ◌||◌, if◌then◌else◌}
use Rattle.std.specs.List.{list_any}
use Rattle.std.specs.Option.{option_map}
use Rattle.std.proofs.lemmas.List.{length-map, map-append}
use Rattle.vortex_types.specs.declared.dtype.DType.{DType}
use Rattle.vortex_types.specs.LogicalTypes.{LogicalType, null_type, bool_type, integer_type}
use Rattle.vortex_types.specs.LogicalTypes.{text_type, bytes_type, struct_type, list_type}
use Rattle.vortex_types.specs.LogicalTypes.{fixed_size_list_type, map_type, with_nullability}
use Rattle.vortex_types.specs.TypeOf.{type_of}
use Rattle.vortex_interface.specs.Meaning.{Meaning, fits}
use Rattle.vortex_interface.specs.Functions.{Function, function_arity, function_type, function_strict}
use Rattle.vortex_interface.specs.Trees.{Tree, Trees, trees_of, children_of, called}
use Rattle.vortex_interface.specs.Eval.{tree_type, tree_types, with_type}
use Rattle.vortex_interface.specs.Rules.{may_be_null}
use Rattle.vortex_interface.specs.ValidityRules.{is_null_type, without_null}
use Rattle.vortex_interface.specs.ValidityRules.{union_child_validities, validity_of_typed}
use Rattle.vortex_interface.specs.ValidityRules.{default_validity}
use Rattle.vortex_functions.proofs.Bound.{type_count}
use Rattle.vortex_rewriting.proofs.Calls.{children_fit}

-- a mark that is known to hold
pub holds_where : (b c : Bool) → b ≡ c → not b ≡ false → c ≡ true
holds_where true c e h = sym e
holds_where false c e h = cc

any_map : {A B : Type 0} (p : B → Bool) (f : A → B) (xs : List A)
    → list_any p (map f xs) ≡ list_any (λ x. p (f x)) xs
any_map p f [] = refl
any_map p f (x ∷ xs) = ap (λ b. p (f x) || b) (any_map p f xs)

null_stays : (t : LogicalType) → is_null_type (with_nullability t false) ≡ is_null_type t
null_stays null_type = refl
null_stays (bool_type n) = refl
null_stays (integer_type p n) = refl
null_stays (text_type n) = refl
null_stays (bytes_type n) = refl
null_stays (struct_type fs n) = refl
null_stays (list_type a n) = refl
null_stays (fixed_size_list_type a s n) = refl
null_stays (map_type k a n) = refl

nulls_stay : (ts : List LogicalType)
    → list_any is_null_type (without_null ts) ≡ list_any is_null_type ts
nulls_stay [] = refl
nulls_stay (t ∷ ts) = λ j. null_stays t j || nulls_stay ts j

some_types : (o : Option (List LogicalType)) (ks : List LogicalType)
    → option_map without_null o ≡ Some ks
    → (ts : List LogicalType) × (o ≡ Some ts) × (without_null ts ≡ ks)
some_types None ks h = cc
some_types (Some ts) ks h = (ts, refl, cc)

one_before : (a : Option LogicalType) (o : Option (List LogicalType)) (ks : List LogicalType)
    → option_map without_null (with_type a o) ≡ Some ks
    → (t : LogicalType) × (js : List LogicalType) × (a ≡ Some t)
    × (option_map without_null o ≡ Some js) × (with_nullability t false ∷ js ≡ ks)
one_before None o ks h = cc
one_before (Some t) None ks h = cc
one_before (Some t) (Some ts) ks h = (t, without_null ts, refl, refl, cc)

with_one : (a : Option LogicalType) (t : LogicalType) (o : Option (List LogicalType))
    (ks : List LogicalType) → a ≡ Some t → option_map without_null o ≡ Some ks
    → option_map without_null (with_type a o) ≡ Some (with_nullability t false ∷ ks)
with_one None t o ks e h = cc
with_one (Some u) t None ks e h = cc
with_one (Some u) t (Some ts) ks e h =
    let same : u ≡ t = cc in
    let is : without_null ts ≡ ks = cc in
    λ j. Some (with_nullability (same j) false ∷ is j)

module _ {V O : Type 0} (m : Meaning V O) where
  -- the types of the children so far, and one more
  types_more : (ts : List (Tree V O)) (ks : List LogicalType) (i : ℕ) (t : Tree V O)
      (k : LogicalType)
      → option_map without_null (tree_types m (trees_of (take i ts))) ≡ Some ks
      → slice_get ts i ≡ Some t → tree_type m t ≡ Some k
      → option_map without_null (tree_types m (trees_of (take (suc i) ts)))
      ≡ Some (ks ++ with_nullability k false ∷ [])
  types_more [] ks i t k h l e = cc
  types_more (x ∷ xs) ks zero t k h l e =
      let is : x ≡ t = cc in
      let none : [] ≡ ks = cc in
      with_one (tree_type m x) k (Some []) [] (ap (tree_type m) is ∙ e) refl
      ∙ ap (λ js. Some (js ++ with_nullability k false ∷ [])) none
  types_more (x ∷ xs) ks (suc i) t k h l e =
      let p = one_before (tree_type m x) (tree_types m (trees_of (take i xs))) ks h in
      with_one (tree_type m x) p.0 (tree_types m (trees_of (take (suc i) xs)))
      (p.1 ++ with_nullability k false ∷ []) p.2 (types_more xs p.1 i t k p.3 l e)
      ∙ ap (λ js. Some (js ++ with_nullability k false ∷ [])) p.4

  -- the same for types as they are listed
  pub one_more_dtype : (ts : List (Tree V O)) (i : ℕ) (t : Tree V O) (k : LogicalType)
      (dtypes : List DType) (dtype : DType) (after : List DType)
      → option_map without_null (tree_types m (trees_of (take i ts))) ≡ Some (map type_of dtypes)
      → slice_get ts i ≡ Some t → tree_type m t ≡ Some k → type_of dtype ≡ with_nullability k false
      → after ≡ dtypes ++ dtype ∷ []
      → option_map without_null (tree_types m (trees_of (take (i + 1) ts)))
      ≡ Some (map type_of after)
  one_more_dtype ts i t k dtypes dtype after h at typed is more =
      ap (λ l. option_map without_null (tree_types m (trees_of (take l ts)))) (add-one i)
      ∙ types_more ts (map type_of dtypes) i t k h at typed
      ∙ ap (λ u. Some (map type_of dtypes ++ u ∷ [])) (sym is)
      ∙ ap Some (sym (map-append type_of dtypes (dtype ∷ [])))
      ∙ ap (λ ds. Some (map type_of ds)) (sym more)

  -- as many types as the call's function takes
  pub types_fit : (t : Tree V O) (f : Function V O) (k : LogicalType) (ds : List DType)
      → called t ≡ Some f → tree_type m t ≡ Some k
      → option_map without_null (tree_types m (trees_of (children_of t))) ≡ Some (map type_of ds)
      → fits (function_arity m f) (length ds) ≡ true
  types_fit t f k ds c h e =
      let p = some_types (tree_types m (trees_of (children_of t))) (map type_of ds) e in
      let many = type_count m (children_of t) p.0 p.1 in
      let mapped = length-map p.0 (λ u. with_nullability u false) in
      let here = sym (length-map ds type_of) ∙ ap length (sym p.2) ∙ mapped ∙ many in
      ap (fits (function_arity m f)) here ∙ children_fit m t f k c h

  -- the default validity of a call of a strict function, from its children's types, each
  -- made non-nullable
  module _ (f : Function V O) (ts : Trees V O) (ds : List DType)
      (strict : function_strict m f ≡ true)
      (typed : option_map without_null (tree_types m ts) ≡ Some (map type_of ds)) where
    -- by whether one of the types is Null, and whether the call may be null over them
    abbrev by_tests : Bool → Bool → Option (Tree V O)
    by_tests any may =
        if any then None else (if may then None else Some (union_child_validities m ts))

    by_types : default_validity m f ts
        ≡ by_tests (list_any (λ d. is_null_type (type_of d)) ds)
        (may_be_null (function_type m f (map type_of ds)))
    by_types =
        let p = some_types (tree_types m ts) (map type_of ds) typed in
        let none = any_map is_null_type type_of ds in
        let nulls = sym (nulls_stay p.0) ∙ ap (list_any is_null_type) p.2 ∙ none in
        ap (λ b. if b then validity_of_typed m f ts (tree_types m ts) else None) strict
        ∙ ap (validity_of_typed m f ts) p.1
        ∙ (λ j. by_tests (nulls j) (may_be_null (function_type m f (p.2 j))))

    pub over_null : list_any (λ d. is_null_type (type_of d)) ds ≡ true
        → default_validity m f ts ≡ None
    over_null h =
        by_types ∙ ap (λ b. by_tests b (may_be_null (function_type m f (map type_of ds)))) h

    pub over_solid : list_any (λ d. is_null_type (type_of d)) ds ≡ false
        → may_be_null (function_type m f (map type_of ds)) ≡ false
        → default_validity m f ts ≡ Some (union_child_validities m ts)
    over_solid h n = by_types ∙ (λ j. by_tests (h j) (n j))
