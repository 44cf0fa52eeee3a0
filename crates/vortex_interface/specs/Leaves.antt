-- The leaves of a tree.
use Rattle.std.specs.Prelude.{◌≡◌, ◌⊎◌}
use Rattle.vortex_interface.specs.Trees.{Leaf, Tree, leaf, constant, call, Trees, no_trees, tree}

-- a leaf of the tree
abbrev mutual
  pub IsLeafOf : {V O : Type 0} → Leaf → Tree V O → Type 0
  IsLeafOf l (leaf k) = l ≡ k
  IsLeafOf l (constant s) = ⊥
  IsLeafOf l (call f ts) = IsLeafIn l ts

  -- a leaf of one of several trees
  pub IsLeafIn : {V O : Type 0} → Leaf → Trees V O → Type 0
  IsLeafIn l no_trees = ⊥
  IsLeafIn l (tree t ts) = IsLeafOf l t ⊎ IsLeafIn l ts
