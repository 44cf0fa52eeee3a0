-- Types and outcomes of calls, taken apart and put together.
use Rattle.std.proofs.Common.{◌≡◌, ℕ, zero, suc, true, List, [], ◌∷◌, length, Option, Some, None}
use Rattle.std.proofs.Common.{refl, ap, ◌∙◌, subst}
use Rattle.std.specs.Prelude.{slice_get, slice_set}
use Rattle.std.specs.Option.{option_and_then}
use Rattle.vortex_types.specs.LogicalTypes.{LogicalType}
use Rattle.vortex_types.specs.Values.{Value}
use Rattle.vortex_columns.specs.ColumnView.{ColumnView}
use Rattle.vortex_interface.specs.Outcomes.{Outcome, gives, faults}
use Rattle.vortex_interface.specs.Meaning.{Meaning, fits}
use Rattle.vortex_interface.specs.Functions.{Function, function_arity, function_type, function_means}
use Rattle.vortex_interface.specs.Functions.{call_type}
use Rattle.vortex_interface.specs.Trees.{Tree, call, Trees, no_trees, tree, trees_of}
use Rattle.vortex_interface.specs.Eval.{Inputs, all_give, one_faults, with_first, then_means}
use Rattle.vortex_interface.specs.Eval.{types_or_none, with_type, tree_type, tree_types, eval}
use Rattle.vortex_interface.specs.Eval.{eval_all}
use Rattle.vortex_interface.proofs.RuleAnswers.{guarded}

pub and_then_some : {A B : Type 0} (f : A → Option B) (o : Option A) (y : B)
    → option_and_then f o ≡ Some y → (x : A) × (o ≡ Some x) × (f x ≡ Some y)
and_then_some f None y h = cc
and_then_some f (Some x) y h = (x, refl, h)

-- the types of a first tree and of the others
pub types_parts : (a : Option LogicalType) (o : Option (List LogicalType))
    (types : List LogicalType) → with_type a o ≡ Some types
    → (t : LogicalType) × (rest : List LogicalType) × (a ≡ Some t) × (o ≡ Some rest)
    × (t ∷ rest ≡ types)
types_parts None o types h = cc
types_parts (Some t) None types h = cc
types_parts (Some t) (Some rest) types h = (t, rest, refl, refl, cc)

-- the types of one tree, and of two
pub one_type : (a : Option LogicalType) (types : List LogicalType)
    → with_type a (Some []) ≡ Some types
    → (t : LogicalType) × (a ≡ Some t) × (t ∷ [] ≡ types)
one_type None types h = cc
one_type (Some t) types h = (t, refl, cc)

pub two_types : (a b : Option LogicalType) (types : List LogicalType)
    → with_type a (with_type b (Some [])) ≡ Some types
    → (t : LogicalType) × (u : LogicalType) × (a ≡ Some t) × (b ≡ Some u) × (t ∷ u ∷ [] ≡ types)
two_types None b types h = cc
two_types (Some t) None types h = cc
two_types (Some t) (Some u) types h = (t, u, refl, refl, cc)

-- the values of the children where a call gives a value, and of a first child and the others
pub means_parts : (means : List Value → Outcome) (x : Inputs) (w : Value)
    → then_means means x ≡ gives w
    → (vs : List Value) × (x ≡ all_give vs) × (means vs ≡ gives w)
means_parts means (one_faults f) w h = cc
means_parts means (all_give vs) w h = (vs, refl, h)

pub values_parts : (x : Outcome) (inputs : Inputs) (vs : List Value)
    → with_first x inputs ≡ all_give vs
    → (v : Value) × (rest : List Value) × (x ≡ gives v) × (inputs ≡ all_give rest) × (v ∷ rest ≡ vs)
values_parts (faults f) inputs vs h = cc
values_parts (gives v) (one_faults f) vs h = cc
values_parts (gives v) (all_give rest) vs h = (v, rest, refl, refl, cc)

module _ {V O : Type 0} (m : Meaning V O) where
  -- the children's types, which the function accepts
  pub record IsTypedCall (f : Function V O) (ts : Trees V O) (t : LogicalType) : Type 0 where
    pub types : List LogicalType
    pub children : tree_types m ts ≡ Some types
    pub fitting : fits (function_arity m f) (length types) ≡ true
    pub returns : function_type m f types ≡ Some t

  pub typed_call : (f : Function V O) (ts : Trees V O) (t : LogicalType)
      → tree_type m (call f ts) ≡ Some t → IsTypedCall f ts t
  typed_call f ts t h =
      let a = and_then_some (call_type m f) (tree_types m ts) t h in
      let b = guarded (fits (function_arity m f) (length a.0)) (function_type m f a.0) t a.2 in
      record { types = a.0; children = a.1; fitting = b.0; returns = b.1 }

  -- the type of an only child
  pub only_child_type : (f : Function V O) (x : Tree V O) (t : LogicalType)
      → tree_type m (call f (tree x no_trees)) ≡ Some t
      → (k : LogicalType) × (tree_type m x ≡ Some k)
  only_child_type f x t h =
      let c = typed_call f (tree x no_trees) t h in
      let a = one_type (tree_type m x) c.types c.children in
      (a.0, a.1)

  -- trees with one replaced by another of the same type have the same types
  pub types_with : (ts : List (Tree V O)) (k : ℕ) (t u : Tree V O) → slice_get ts k ≡ Some t
      → tree_type m u ≡ tree_type m t
      → tree_types m (trees_of (slice_set ts k u)) ≡ tree_types m (trees_of ts)
  types_with [] k t u h e = cc
  types_with (x ∷ xs) zero t u h e =
      let is : t ≡ x = cc in
      ap (λ a. with_type a (tree_types m (trees_of xs))) (e ∙ ap (tree_type m) is)
  types_with (x ∷ xs) (suc k) t u h e = ap (with_type (tree_type m x)) (types_with xs k t u h e)

  -- the type of a call, from one child and from two
  pub type_of_one : (f : Function V O) (x : Tree V O) (t : LogicalType) → tree_type m x ≡ Some t
      → tree_type m (call f (tree x no_trees)) ≡ call_type m f (t ∷ [])
  type_of_one f x t h = ap (λ a. option_and_then (call_type m f) (with_type a (Some []))) h

  pub type_of_two : (f : Function V O) (x y : Tree V O) (t u : LogicalType)
      → tree_type m x ≡ Some t → tree_type m y ≡ Some u
      → tree_type m (call f (tree x (tree y no_trees))) ≡ call_type m f (t ∷ u ∷ [])
  type_of_two f x y t u h k =
      λ j. option_and_then (call_type m f) (with_type (h j) (with_type (k j) (Some [])))

  module _ (cs : List ColumnView) (i : ℕ) where
    -- the children's values, from which the function gives the call's
    pub record IsCallValue (f : Function V O) (ts : Trees V O) (types : List LogicalType)
        (w : Value) : Type 0 where
      pub values : List Value
      pub children : eval_all m cs ts i ≡ all_give values
      pub means : function_means m f types values ≡ gives w

    pub call_value : (f : Function V O) (ts : Trees V O) (types : List LogicalType) (w : Value)
        → tree_types m ts ≡ Some types → eval m cs (call f ts) i ≡ gives w
        → IsCallValue f ts types w
    call_value f ts types w h e =
        let means = function_means m f (types_or_none (tree_types m ts)) in
        let a = means_parts means (eval_all m cs ts i) w e in
        let of_types = λ (z : Option (List LogicalType)).
        function_means m f (types_or_none z) a.0 ≡ gives w in
        record { values = a.0; children = a.1; means = subst of_types h a.2 }

    -- the value of an only child, and of two
    pub one_value : (f : Function V O) (x : Tree V O) (w : Value)
        → eval m cs (call f (tree x no_trees)) i ≡ gives w
        → (v : Value) × (eval m cs x i ≡ gives v)
        × (function_means m f (types_or_none (tree_types m (tree x no_trees))) (v ∷ []) ≡ gives w)
    one_value f x w e = by (eval m cs x i) refl e
      where
        means : List Value → Outcome
        means = function_means m f (types_or_none (tree_types m (tree x no_trees)))

        by : (r : Outcome) → eval m cs x i ≡ r
            → then_means means (with_first r (all_give [])) ≡ gives w
            → (v : Value) × (eval m cs x i ≡ gives v) × (means (v ∷ []) ≡ gives w)
        by (faults f) p q = cc
        by (gives v) p q = (v, p, q)

    pub two_values : (f : Function V O) (x y : Tree V O) (w : Value)
        → eval m cs (call f (tree x (tree y no_trees))) i ≡ gives w
        → (v : Value) × (z : Value) × (eval m cs x i ≡ gives v) × (eval m cs y i ≡ gives z)
        × (function_means m f (types_or_none (tree_types m (tree x (tree y no_trees)))) (v ∷ z ∷ [])
        ≡ gives w)
    two_values f x y w e = by (eval m cs x i) (eval m cs y i) refl refl e
      where
        means : List Value → Outcome
        means = function_means m f (types_or_none (tree_types m (tree x (tree y no_trees))))

        by : (r s : Outcome) → eval m cs x i ≡ r → eval m cs y i ≡ s
            → then_means means (with_first r (with_first s (all_give []))) ≡ gives w
            → (v : Value) × (z : Value) × (eval m cs x i ≡ gives v) × (eval m cs y i ≡ gives z)
            × (means (v ∷ z ∷ []) ≡ gives w)
        by (faults f) s p q k = cc
        by (gives v) (faults f) p q k = cc
        by (gives v) (gives z) p q k = (v, z, p, q, k)

    -- and back: a call's outcome, from its children's values
    pub eval_one : (f : Function V O) (x : Tree V O) (v : Value) → eval m cs x i ≡ gives v
        → eval m cs (call f (tree x no_trees)) i
        ≡ function_means m f (types_or_none (tree_types m (tree x no_trees))) (v ∷ [])
    eval_one f x v h =
        ap (λ r. then_means (function_means m f (types_or_none (tree_types m (tree x no_trees))))
        (with_first r (all_give []))) h

    pub eval_two : (f : Function V O) (x y : Tree V O) (v w : Value)
        → eval m cs x i ≡ gives v → eval m cs y i ≡ gives w
        → eval m cs (call f (tree x (tree y no_trees))) i
        ≡ function_means m f (types_or_none (tree_types m (tree x (tree y no_trees)))) (v ∷ w ∷ [])
    eval_two f x y v w h k =
        let means =
        function_means m f (types_or_none (tree_types m (tree x (tree y no_trees)))) in
        ap (then_means means) (λ j. with_first (h j) (with_first (k j) (all_give [])))
