-- Expression and array trees, as values, over a caller's functions V with options O.
use Rattle.std.specs.Prelude.{ℕ, ◌+◌, suc, List, [], ◌∷◌, Option, Some, None}
use Rattle.vortex_types.specs.LogicalTypes.{LogicalType}
use Rattle.vortex_columns.specs.ColumnView.{ColumnView}
use Rattle.vortex_types.specs.ScalarView.{ScalarView}
use Rattle.vortex_interface.specs.Functions.{Function}

-- a leaf of an expression is a place in a scope, with a name and a type; a leaf of an array tree is
-- the column that it holds
pub data Leaf : Type 0 where
  place : ℕ → List ℕ → LogicalType → Leaf
  held : ColumnView → Leaf

mutual
  pub data Tree (V O : Type 0) : Type 0 where
    leaf : Leaf → Tree V O
    constant : ScalarView → Tree V O
    call : Function V O → Trees V O → Tree V O

  pub data Trees (V O : Type 0) : Type 0 where
    no_trees : Trees V O
    tree : Tree V O → Trees V O → Trees V O

abbrev pub trees_of : {V O : Type 0} → List (Tree V O) → Trees V O
trees_of [] = no_trees
trees_of (t ∷ ts) = tree t (trees_of ts)

abbrev pub list_of : {V O : Type 0} → Trees V O → List (Tree V O)
list_of no_trees = []
list_of (tree t ts) = t ∷ list_of ts

abbrev pub children_of : {V O : Type 0} → Tree V O → List (Tree V O)
children_of (leaf l) = []
children_of (constant s) = []
children_of (call f ts) = list_of ts

-- the function of a call
abbrev pub called : {V O : Type 0} → Tree V O → Option (Function V O)
called (leaf l) = None
called (constant s) = None
called (call f ts) = Some f

-- the scalar of a constant
abbrev pub literal : {V O : Type 0} → Tree V O → Option ScalarView
literal (leaf l) = None
literal (constant s) = Some s
literal (call f ts) = None

-- how many nodes
abbrev mutual
  pub node_count : {V O : Type 0} → Tree V O → ℕ
  node_count (leaf l) = 1
  node_count (constant s) = 1
  node_count (call f ts) = suc (nodes_count ts)

  pub nodes_count : {V O : Type 0} → Trees V O → ℕ
  nodes_count no_trees = 0
  nodes_count (tree t ts) = node_count t + nodes_count ts
