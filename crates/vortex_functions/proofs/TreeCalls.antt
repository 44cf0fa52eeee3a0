-- A call over trees of some kind.
use Rattle.std.proofs.Common.{◌≡◌, ℕ, zero, suc, ◌+◌, ◌<◌, true, List, [], ◌∷◌, ◌++◌, length, map}
use Rattle.std.proofs.Common.{take, get_or, Some, refl, sym, ap, subst, ◌∙◌, arith}
use Rattle.std.specs.Prelude.{All}
use Rattle.std.proofs.lemmas.List.{length-map}
use Rattle.std.proofs.lemmas.List.Elements.{All-nil, All-cons}
use Rattle.vortex_types.specs.declared.dtype.DType.{DType}
use Rattle.vortex_types.specs.LogicalTypes.{LogicalType}
use Rattle.vortex_types.specs.TypeOf.{type_of}
use Rattle.vortex_errors.specs.declared.error.VortexError.{VortexError}
use Rattle.vortex_errors.specs.Answers.{UnlessMemory}
use Rattle.vortex_interface.specs.Meaning.{Meaning, fits}
use Rattle.vortex_interface.specs.Functions.{Function, function_arity, function_type, RefusesTypes}
use Rattle.vortex_interface.specs.Trees.{Tree, trees_of, call}
use Rattle.vortex_interface.specs.Eval.{tree_type, tree_types}
use Rattle.vortex_interface.specs.Weights.{weights, weight_told}
use Rattle.vortex_functions.specs.Binding.{IsCall, RefusesCall}
use Rattle.vortex_functions.proofs.Bound.{count_fits, call_is_typed, types_refused}
use Rattle.vortex_functions.proofs.CallWeights.{told, sum_more}
use Rattle.vortex_functions.proofs.Execution.{types_more}

-- one more element with P
pub all_more : {A : Type 0} (P : A → Type 0) (xs : List A) (i : ℕ) (a : A) → All P (take i xs)
    → i < length xs → a ≡ get_or xs i a → P a → All P (take (suc i) xs)
all_more P [] i a h lt is p = absurd (omega (arith, lt))
all_more P (x ∷ xs) zero a h lt is p = All-cons P x [] (subst P is p) (All-nil P)
all_more P (x ∷ xs) (suc i) a h lt is p =
    All-cons P x (take (suc i) xs) (h zero x (omega arith))
    (all_more P xs i a (λ k d lt. h (suc k) d (omega (arith, lt))) (omega (arith, lt)) is p)

module _ {V O S : Type 0} (tree_of : S → Tree V O) where
  mapped : (xs : List S) (j : ℕ) (a : S)
      → tree_of (get_or xs j a) ≡ get_or (map tree_of xs) j (tree_of a)
  mapped [] j a = refl
  mapped (x ∷ xs) zero a = refl
  mapped (x ∷ xs) (suc j) a = mapped xs j a

  module _ (m : Meaning V O) where
    -- the types of one more tree
    pub types_one_more : (xs : List S) (ks : List LogicalType) (i : ℕ) (a : S) (k : LogicalType)
        → tree_types m (trees_of (take i (map tree_of xs))) ≡ Some ks → i < length xs
        → a ≡ get_or xs i a → tree_type m (tree_of a) ≡ Some k
        → tree_types m (trees_of (take (suc i) (map tree_of xs))) ≡ Some (ks ++ k ∷ [])
    types_one_more xs ks i a k h lt e q =
        types_more m (map tree_of xs) ks i (tree_of a) k h
        (subst (λ (n : ℕ). i < n) (sym (length-map xs tree_of)) lt) (ap tree_of e ∙ mapped xs i a) q

    -- a saturated sum of weights, and one more tree
    pub sum_one_more : (b : ℕ) (xs : List S) (i : ℕ) (a : S) (sum one : ℕ)
        → sum ≡ told (b + weights m (trees_of (take i (map tree_of xs)))) → i < length xs
        → a ≡ get_or xs i a → one ≡ weight_told m (tree_of a)
        → told (sum + one) ≡ told (b + weights m (trees_of (take (suc i) (map tree_of xs))))
    sum_one_more b xs i a sum one so_far lt e weighs =
        sum_more m b (map tree_of xs) i (tree_of a) sum one so_far
        (subst (λ (n : ℕ). i < n) (sym (length-map xs tree_of)) lt) (ap tree_of e ∙ mapped xs i a)
        weighs

    module _ (f : Function V O) (xs : List S) (dtypes : List DType)
        (typed : tree_types m (trees_of (map tree_of xs)) ≡ Some (map type_of dtypes))
        (arity : fits (function_arity m f) (length xs) ≡ true) where
      arity_of_trees : fits (function_arity m f) (length (map tree_of xs)) ≡ true
      arity_of_trees = ap (λ k. fits (function_arity m f) k) (length-map xs tree_of) ∙ arity

      pub dtypes_fit : fits (function_arity m f) (length dtypes) ≡ true
      dtypes_fit = count_fits m f (map tree_of xs) dtypes typed arity_of_trees

      pub is_typed : (k : LogicalType) → function_type m f (map type_of dtypes) ≡ Some k
          → tree_type m (call f (trees_of (map tree_of xs))) ≡ Some k
      is_typed k e = call_is_typed m f (map tree_of xs) dtypes typed arity_of_trees k e

      pub is_call : (k : LogicalType) (t : Tree V O)
          → function_type m f (map type_of dtypes) ≡ Some k
          → t ≡ call f (trees_of (map tree_of xs)) → IsCall m f (map tree_of xs) t
      is_call k t e is = record {
        is = is;
        arity = arity_of_trees;
        types = map type_of dtypes;
        typed = typed;
        dtype = k;
        accepted = e;
      }

      pub refused : (e : VortexError) → RefusesTypes m f (map type_of dtypes) e
          → UnlessMemory (RefusesCall m f (map tree_of xs)) e
      refused e h = types_refused m f (map tree_of xs) dtypes typed arity_of_trees e h
