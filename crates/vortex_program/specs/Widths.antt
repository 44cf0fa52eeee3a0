-- How wide trees are, and over how many rows they are run at once.
use Rattle.std.specs.Prelude.{ℕ, ◌*◌, max, min, length, List}
use Rattle.vortex_interface.specs.Trees.{Tree, leaf, constant, call, Trees, no_trees, tree}
use Rattle.vortex_interface.specs.Trees.{list_of}

-- the most children that a node has
abbrev mutual
  pub most_children : {V O : Type 0} → Tree V O → ℕ
  most_children (leaf l) = 0
  most_children (constant s) = 0
  most_children (call f ts) = max (length (list_of ts)) (most_children_in ts)

  -- the same over several trees
  pub most_children_in : {V O : Type 0} → Trees V O → ℕ
  most_children_in no_trees = 0
  most_children_in (tree t ts) = max (most_children t) (most_children_in ts)

-- 64 for each child of the node that has most, 2,048 to 65,536
abbrev pub rows_at_once : {V O : Type 0} → Trees V O → ℕ
rows_at_once ts = 64 * max 32 (min (most_children_in ts) 1024)
