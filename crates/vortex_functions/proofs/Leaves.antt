-- The laws of a kind of leaf, for its trees.
use Rattle.std.proofs.Common.{◌≡◌, ℕ, zero, suc, List, [], ◌∷◌, map, Some, None, refl, sym, ap}
use Rattle.std.proofs.Common.{subst, ◌∙◌, arith}
use Rattle.std.specs.Prelude.{All, slice_get}
use Rattle.std.proofs.lemmas.List.Elements.{All-nil, All-cons}
use Rattle.vortex_interface.specs.Functions.{Function}
use Rattle.vortex_interface.specs.Meaning.{Meaning}
use Rattle.vortex_interface.specs.Trees.{Tree, leaf, constant, call, trees_of, children_of, called}
use Rattle.vortex_interface.specs.Trees.{node_count}
use Rattle.vortex_interface.specs.Weights.{weight_told}
use Rattle.vortex_functions.specs.declared.tree.leaf.Leaf.{Ghosts}
use Rattle.vortex_functions.proofs.TreeLists.{list_of-trees_of}

-- a tree that is no call
module _ {V O : Type 0} where
  pub one_node : (t : Tree V O) → called t ≡ None → node_count t ≡ 1
  one_node (leaf l) e = refl
  one_node (constant s) e = refl
  one_node (call f ts) e = cc

  pub childless : (t : Tree V O) → called t ≡ None → children_of t ≡ []
  childless (leaf l) e = refl
  childless (constant s) e = refl
  childless (call f ts) e = cc

  pub weighs_one : (m : Meaning V O) (t : Tree V O) → called t ≡ None → weight_told m t ≡ 1
  weighs_one m (leaf l) e = refl
  weighs_one m (constant s) e = refl
  weighs_one m (call f ts) e = cc

module _ {V L O B S : Type 0} (l : Ghosts L V O B S) where
  -- the children of a tree with that context
  pub children_beside : (t : Tree V O) (b : B)
      → l.children (l.see t b) ≡ map (λ x. l.see x b) (children_of t)
  children_beside t b =
      l.children_are (l.see t b)
      ∙ (λ j. map (λ x. l.see x (l.context_of_see t b j)) (children_of (l.tree_of_see t b j)))

  pub leaf_has_none : (x : L) (b : B) → l.children (l.see (l.seen x) b) ≡ []
  leaf_has_none x b =
      children_beside (l.seen x) b
      ∙ ap (map (λ t. l.see t b)) (childless (l.seen x) (l.not_called x))

  seen_again : (b : B) (xs : List S) → All (λ a. l.context_of a ≡ b) xs
      → map (λ t. l.see t b) (map l.tree_of xs) ≡ xs
  seen_again b [] even = refl
  seen_again b (a ∷ xs) even =
      let same = ap (l.see (l.tree_of a)) (sym (even zero a (omega arith))) ∙ l.see_of a in
      λ j. same j ∷ seen_again b xs (λ i d lt. even (suc i) d (omega (arith, lt))) j

  -- the trees below a call are its children
  pub call_has : (f : Function V O) (b : B) (xs : List S) → All (λ a. l.context_of a ≡ b) xs
      → xs ≡ l.children (l.see (call f (trees_of (map l.tree_of xs))) b)
  call_has f b xs even =
      sym
      (children_beside (call f (trees_of (map l.tree_of xs))) b
      ∙ ap (map (λ t. l.see t b)) (list_of-trees_of (map l.tree_of xs))
      ∙ seen_again b xs even)

  trees_below : (b : B) (ts : List (Tree V O)) (i : ℕ) (x : S)
      → slice_get (map (λ t. l.see t b) ts) i ≡ Some x
      → (slice_get ts i ≡ Some (l.tree_of x)) × (l.context_of x ≡ b)
  trees_below b [] i x h = cc
  trees_below b (t ∷ ts) zero x h =
      let is : l.see t b ≡ x = cc in (
        ap Some (sym (l.tree_of_see t b) ∙ ap l.tree_of is),
        ap l.context_of (sym is) ∙ l.context_of_see t b,
      )
  trees_below b (t ∷ ts) (suc i) x h = trees_below b ts i x h

  -- a child, and its context
  pub child_at : (a : S) (i : ℕ) (x : S) → slice_get (l.children a) i ≡ Some x
      → (slice_get (children_of (l.tree_of a)) i ≡ Some (l.tree_of x))
      × (l.context_of x ≡ l.context_of a)
  child_at a i x h =
      trees_below (l.context_of a) (children_of (l.tree_of a)) i x
      (ap (λ xs. slice_get xs i) (sym (l.children_are a)) ∙ h)

  trees_again : (b : B) (ts : List (Tree V O)) → map l.tree_of (map (λ t. l.see t b) ts) ≡ ts
  trees_again b [] = refl
  trees_again b (t ∷ ts) = λ j. l.tree_of_see t b j ∷ trees_again b ts j

  pub children_as_trees : (a : S) → map l.tree_of (l.children a) ≡ children_of (l.tree_of a)
  children_as_trees a =
      ap (map l.tree_of) (l.children_are a)
      ∙ trees_again (l.context_of a) (children_of (l.tree_of a))

  all_beside : (b : B) (ts : List (Tree V O))
      → All (λ x. l.context_of x ≡ b) (map (λ t. l.see t b) ts)
  all_beside b [] = All-nil _
  all_beside b (t ∷ ts) =
      All-cons (λ x. l.context_of x ≡ b) (l.see t b) _ (l.context_of_see t b) (all_beside b ts)

  pub children_beside_it : (a : S) → All (λ x. l.context_of x ≡ l.context_of a) (l.children a)
  children_beside_it a =
      subst (All (λ x. l.context_of x ≡ l.context_of a)) (sym (l.children_are a))
      (all_beside (l.context_of a) (children_of (l.tree_of a)))
