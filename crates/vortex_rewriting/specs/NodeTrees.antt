-- The tree of a node, borrowed or owned.
use Rattle.std.specs.Prelude.{ℕ, ⊤}
use Rattle.std.specs.Cow.{cow_value}
use Rattle.vortex_interface.specs.Trees.{Tree}
use Rattle.vortex_functions.specs.Arrays.{Array, tree_in, rows_in}
use Rattle.vortex_rewriting.specs.Contexts.{InContext, in_context}
use Rattle.vortex_rewriting.specs.declared.tree_node.TreeReduceNode.{TreeReduceNode}

module _ {V O : Type 0} where
  -- in its context
  abbrev pub node_seen : {A B : Type 0} → (A → Tree V O) → (A → B) → TreeReduceNode A
      → InContext V O B
  node_seen tree_of rows_of node = in_context tree_of rows_of (cow_value node.tree)

  -- for an expression
  abbrev pub expression_of : TreeReduceNode (Tree V O) → Tree V O
  expression_of node = cow_value node.tree

  abbrev pub expression_seen : TreeReduceNode (Tree V O) → InContext V O ⊤
  expression_seen = node_seen (λ t. t) (λ t. tt)

  -- for an array tree
  abbrev pub array_of : TreeReduceNode (Array V O) → Array V O
  array_of node = cow_value node.tree

  abbrev pub tree_of : TreeReduceNode (Array V O) → Tree V O
  tree_of node = tree_in (array_of node)

  abbrev pub array_seen : TreeReduceNode (Array V O) → InContext V O ℕ
  array_seen = node_seen tree_in rows_in
