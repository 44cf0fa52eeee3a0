-- The children of an array, and the result of a walk over them.
use Rattle.std.proofs.Common.{◌≡◌, ℕ, zero, suc, ◌+◌, refl, sym, ap, subst, ◌∙◌, List, [], ◌∷◌}
use Rattle.std.proofs.Common.{length, map, take, Some}
use Rattle.std.specs.Prelude.{slice_get}
use Rattle.std.proofs.lemmas.List.{take-map}
use Rattle.std.specs.declared.borrow.Cow.{Cow}
use Rattle.vortex_errors.specs.declared.error.VortexError.{VortexError}
use Rattle.vortex_errors.specs.Answers.{UnlessMemory}
use Rattle.vortex_columns.specs.ColumnView.{ColumnView}
use Rattle.vortex_interface.specs.Meaning.{Meaning}
use Rattle.vortex_interface.specs.Functions.{Function}
use Rattle.vortex_interface.specs.Trees.{Tree, call, trees_of, children_of, node_count}
use Rattle.vortex_interface.specs.Eval.{IsFirstFault}
use Rattle.vortex_functions.specs.Walks.{AllMean}
use Rattle.vortex_functions.specs.Executing.{HasRows}
use Rattle.vortex_functions.proofs.Chains.{nodes}
use Rattle.vortex_functions.proofs.Counts.{node_and_children}
use Rattle.vortex_functions.proofs.Inputs.{made_of_items}
use Rattle.vortex_functions.proofs.Upward.{fault_upward}
use Rattle.vortex_functions.specs.Arrays.{Array, tree_in, rows_in, trees_in, children_in}
use Rattle.vortex_functions.specs.Nodes.{node_tree, tree_view}
use Rattle.vortex_functions.specs.ArrayLeaves.{array_leaf}
use Rattle.vortex_functions.specs.ArrayExecuting.{HasArrayRows}
use Rattle.vortex_functions.specs.declared.array.ArrayLeaf.{ArrayLeaf}
use Rattle.vortex_functions.specs.declared.tree.Node.{Node}
use Rattle.vortex_functions.specs.declared.tree.Tree.TheInside.{Inside}

module _ {V O : Type 0} where
  abbrev pub array_nodes : Array V O → ℕ
  array_nodes a = node_count (tree_in a)

  -- an opened array by its node
  pub seen : (self : Array V O) (a : Inside V ArrayLeaf O ℕ (Array V O))
      (n : Node V ArrayLeaf O ℕ (Array V O))
      → tree_view tree_in (λ t k. (t, k)) array_leaf a ≡ self → a.node ≡ n
      → self ≡ (node_tree tree_in array_leaf n, a.context)
  seen self a n is e = sym is ∙ ap (λ x. (node_tree tree_in array_leaf x, a.context)) e

  same_nodes : (n : ℕ) (ts : List (Tree V O))
      → nodes node_count ts ≡ nodes array_nodes (map (λ t. (t, n)) ts)
  same_nodes n [] = refl
  same_nodes n (t ∷ ts) = ap (λ k. node_count t + k) (same_nodes n ts)

  -- a node counts itself and its children
  pub array_and_children : (a : Array V O)
      → array_nodes a ≡ suc (nodes array_nodes (children_in a))
  array_and_children a =
      node_and_children (tree_in a) ∙ ap suc (same_nodes (rows_in a) (children_of (tree_in a)))

  child_at : (n : ℕ) (ts : List (Tree V O)) (k : ℕ) (child : Array V O)
      → slice_get (map (λ t. (t, n)) ts) k ≡ Some child
      → (slice_get ts k ≡ Some (tree_in child)) × (rows_in child ≡ n)
  child_at n [] k child e = cc
  child_at n (t ∷ ts) zero child e =
      let q : (t, n) ≡ child = some_same (t, n) child e in
      (ap (λ (a : Array V O). Some (tree_in a)) q, sym (ap rows_in q))
    where
      some_same : (x y : Array V O) → Some x ≡ Some y → x ≡ y
      some_same x y p = cc
  child_at n (t ∷ ts) (suc k) child e = child_at n ts k child e

  module _ (m : Meaning V O) where
    beneath : (n : ℕ) (ts : List (Tree V O)) (os : List (Cow ColumnView))
        → AllMean (HasArrayRows m) (map (λ t. (t, n)) ts) os → AllMean (HasRows m [] n) ts os
    beneath n [] [] h = tt
    beneath n [] (o ∷ os) h = absurd h
    beneath n (t ∷ ts) [] h = absurd h
    beneath n (t ∷ ts) (o ∷ os) h = (h.0, beneath n ts os h.1)

    -- the results for the children of an array that is known to be a call
    pub made_beneath : (self : Array V O) (f : Function V O) (xs : List (Array V O)) (n : ℕ)
        (os : List (Cow ColumnView))
        → self ≡ (call f (trees_of (trees_in xs)), n)
        → AllMean (HasArrayRows m) (children_in self) os
        → AllMean (HasRows m [] n) (trees_in xs) os
    made_beneath self f xs n os is h =
        let t = call f (trees_of (trees_in xs)) in
        made_of_items (HasRows m [] n) t f (trees_in xs) os refl
        (beneath n (children_of t) os
        (subst (λ (a : Array V O). AllMean (HasArrayRows m) (children_in a) os) is h))

    -- a child's fault is its parent's
    pub array_fault_upward : (a child : Array V O) (os : List (Cow ColumnView)) (e : VortexError)
        → AllMean (HasArrayRows m) (take (length os) (children_in a)) os
        → slice_get (children_in a) (length os) ≡ Some child
        → UnlessMemory (IsFirstFault m [] (rows_in child) (tree_in child)) e
        → UnlessMemory (IsFirstFault m [] (rows_in a) (tree_in a)) e
    array_fault_upward a child os e h at r =
        let ts = children_of (tree_in a) in
        let n = rows_in a in
        let p = child_at n ts (length os) child at in
        let so_far : AllMean (HasRows m [] n) (take (length os) ts) os =
        beneath n (take (length os) ts) os
        (subst (λ (xs : List (Array V O)). AllMean (HasArrayRows m) xs os)
        (take-map (λ t. (t, n)) (length os) ts) h) in
        fault_upward m [] n (tree_in a) (tree_in child) os e so_far p.0
        (subst (λ (k : ℕ). UnlessMemory (IsFirstFault m [] k (tree_in child)) e) p.1 r)
