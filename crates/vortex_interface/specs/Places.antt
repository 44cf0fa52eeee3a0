-- A rule at a place of a tree, and a list of rules at places. A rule is any partial function of
-- trees, and a path of child numbers leads to a place.
use Rattle.std.specs.Prelude.{ℕ, suc, List, [], ◌∷◌, Option, Some, None, slice_get, slice_set}
use Rattle.std.specs.Option.{option_map, option_and_then}
use Rattle.vortex_interface.specs.Trees.{Tree, leaf, constant, call, trees_of, list_of, children_of}

module _ {V O : Type 0} where
  -- the tree with the child of that number replaced
  abbrev pub with_child : Tree V O → ℕ → Tree V O → Tree V O
  with_child (leaf l) k u = leaf l
  with_child (constant s) k u = constant s
  with_child (call f ts) k u = call f (trees_of (slice_set (list_of ts) k u))

  -- The rule at the place of the path, and everything else unchanged: none where the path leaves
  -- the tree, and no tree where the rule does not apply there.
  abbrev pub rewritten : (Tree V O → Option (Tree V O)) → List ℕ → Tree V O
      → Option (Option (Tree V O))
  rewritten rule [] t = Some (rule t)
  rewritten rule (k ∷ path) t =
      option_and_then (λ x. option_map (option_map (with_child t k)) (rewritten rule path x))
      (slice_get (children_of t) k)

  -- a tree and the number of applied rules, after one more
  abbrev pub one_more : Tree V O × ℕ → Tree V O × ℕ
  one_more a = (a.0, suc a.1)

  -- after a first rule, the others on its result: the new tree if it applied, else the same tree
  abbrev pub then_others : (Tree V O → Option (Tree V O × ℕ)) → Tree V O
      → Option (Option (Tree V O)) → Option (Tree V O × ℕ)
  then_others others t None = None
  then_others others t (Some None) = others t
  then_others others t (Some (Some u)) = option_map one_more (others u)

  module _ {A : Type 0} (apply : A → Tree V O → Option (Tree V O)) where
    -- Rules by their names, each at its place of the tree that the rules before it made: the last
    -- tree, and how many of them applied. None where a path leaves its tree.
    abbrev pub rewritten_list : List (A × List ℕ) → Tree V O → Option (Tree V O × ℕ)
    rewritten_list [] t = Some (t, 0)
    rewritten_list (s ∷ steps) t =
        then_others (rewritten_list steps) t (rewritten (apply s.0) s.1 t)
