-- A call that is bound.
use Rattle.std.proofs.Common.{◌≡◌, suc, Bool, true, List, [], ◌∷◌, length, map, Option, Some, None}
use Rattle.std.proofs.Common.{refl, sym, ap, subst, ◌∙◌}
use Rattle.std.specs.Prelude.{if◌then◌else◌}
use Rattle.std.specs.Option.{option_and_then}
use Rattle.std.proofs.lemmas.List.{length-map}
use Rattle.vortex_types.specs.declared.dtype.DType.{DType}
use Rattle.vortex_errors.specs.declared.error.MismatchPlace.{MismatchPlace}
use Rattle.vortex_errors.specs.declared.error.VortexError.{VortexError}
use Rattle.vortex_errors.specs.Answers.{UnlessMemory}
use Rattle.vortex_types.specs.LogicalTypes.{LogicalType}
use Rattle.vortex_types.specs.TypeOf.{type_of}
use Rattle.vortex_errors.proofs.Answering.{UnlessMemory-weaker}
use Rattle.vortex_interface.specs.Meaning.{Meaning, fits}
use Rattle.vortex_interface.specs.Functions.{Function, function_arity, ours, custom, function_type}
use Rattle.vortex_interface.specs.Functions.{call_type, IsMismatchOf, IsMismatchAt, RefusesTypes}
use Rattle.vortex_interface.specs.Shipped.{shipped_place}
use Rattle.vortex_interface.specs.Trees.{Tree, trees_of, call}
use Rattle.vortex_interface.specs.Eval.{tree_type, tree_types, with_type}
use Rattle.vortex_functions.specs.Binding.{RefusesCall, types}

module _ {V O : Type 0} (m : Meaning V O) where
  parts : (a : Option LogicalType) (o : Option (List LogicalType)) (ks : List LogicalType)
      → with_type a o ≡ Some ks
      → (k : LogicalType) × (rest : List LogicalType) × (o ≡ Some rest) × (ks ≡ k ∷ rest)
  parts None o ks e = cc
  parts (Some a) None ks e = cc
  parts (Some a) (Some rest) ks e = (a, rest, refl, cc)

  -- as many types as trees
  pub type_count : (ts : List (Tree V O)) (ks : List LogicalType)
      → tree_types m (trees_of ts) ≡ Some ks → length ks ≡ length ts
  type_count [] ks e = let none : ks ≡ [] = cc in ap length none
  type_count (t ∷ ts) ks e =
      let p = parts (tree_type m t) (tree_types m (trees_of ts)) ks e in
      ap length p.3 ∙ ap suc (type_count ts p.1 p.2)

  abbrev Mismatch : Function V O → List LogicalType → VortexError → Type 0
  Mismatch f ks e = (function_type m f ks ≡ None) × IsMismatchOf f ks e

  mismatch : (f : Function V O) (ks : List LogicalType) (e : VortexError) → RefusesTypes m f ks e
      → UnlessMemory (Mismatch f ks) e
  mismatch (ours s) ks e h = placed (shipped_place s ks) h.1
    where
      placed : (p : Option MismatchPlace) → IsMismatchAt p e
          → UnlessMemory (λ d. (function_type m (ours s) ks ≡ None) × IsMismatchAt p d) e
      placed None k = absurd k
      placed (Some p) k =
          subst (UnlessMemory (λ d. (function_type m (ours s) ks ≡ None) × IsMismatchAt (Some p) d))
          (sym k) (h.0, refl)
  mismatch (custom f o) ks e h = h

  module _ (f : Function V O) (ts : List (Tree V O)) (dtypes : List DType)
      (typed : tree_types m (trees_of ts) ≡ Some (map type_of dtypes))
      (arity : fits (function_arity m f) (length ts) ≡ true) where
    pub count_fits : fits (function_arity m f) (length dtypes) ≡ true
    count_fits =
        ap (λ c. fits (function_arity m f) c)
        (sym (length-map dtypes type_of) ∙ type_count ts (map type_of dtypes) typed)
        ∙ arity

    pub call_is_typed : (k : LogicalType) → function_type m f (map type_of dtypes) ≡ Some k
        → tree_type m (call f (trees_of ts)) ≡ Some k
    call_is_typed k e =
        ap (option_and_then (call_type m f)) typed
        ∙ ap (λ (b : Bool). if b then function_type m f (map type_of dtypes) else None)
        (ap (λ c. fits (function_arity m f) c) (length-map dtypes type_of) ∙ count_fits)
        ∙ e

    pub types_refused : (e : VortexError) → RefusesTypes m f (map type_of dtypes) e
        → UnlessMemory (RefusesCall m f ts) e
    types_refused e h =
        UnlessMemory-weaker (Mismatch f (map type_of dtypes)) (RefusesCall m f ts)
        (λ d p. types (map type_of dtypes) arity typed p.0 p.1) e
        (mismatch f (map type_of dtypes) e h)
