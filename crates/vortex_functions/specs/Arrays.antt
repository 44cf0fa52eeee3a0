-- An array tree as a value: a tree over columns, and how many rows each of its nodes has.
use Rattle.std.specs.Prelude.{ℕ, ◌<◌, List, [], ◌∷◌, Option, Some, None, map, length, nat_eq}
use Rattle.std.specs.Prelude.{if◌then◌else◌}
use Rattle.vortex_columns.specs.ColumnView.{ColumnView, constant_column}
use Rattle.vortex_types.specs.ScalarView.{ScalarView}
use Rattle.vortex_interface.specs.Trees.{held, Tree, leaf, constant, children_of}
use Rattle.vortex_interface.specs.Rewrites.{HasRow}

abbrev pub Array : Type 0 → Type 0 → Type 0
Array V O = Tree V O × ℕ

-- the tree of a column: a constant if its view is one
abbrev pub held_or_constant : {V O : Type 0} → ColumnView → Option ScalarView → Tree V O
held_or_constant c None = leaf (held c)
held_or_constant c (Some s) = constant s

abbrev pub column_tree : {V O : Type 0} → ColumnView → Tree V O
column_tree c = held_or_constant c c.constant

-- the column of a tree that is no call
abbrev pub column_of : {V O : Type 0} → Tree V O → ℕ → Option ColumnView
column_of (leaf (held c)) n = Some c
column_of (constant s) n = Some (constant_column s n)
column_of t n = None

module _ {V O : Type 0} where
  abbrev pub tree_in : Array V O → Tree V O
  tree_in a = a.0

  abbrev pub rows_in : Array V O → ℕ
  rows_in a = a.1

  abbrev pub trees_in : List (Array V O) → List (Tree V O)
  trees_in xs = map tree_in xs

  abbrev pub column_array : ColumnView → Array V O
  column_array c = (column_tree c, length c.rows)

  abbrev pub column_in : Array V O → Option ColumnView
  column_in a = column_of (tree_in a) (rows_in a)

  -- the contents of an array have a value of their type in each of that many rows
  abbrev pub AreRowsTyped : ℕ → Tree V O → Type 0
  AreRowsTyped n t = (i : ℕ) → i < n → HasRow [] i t

  abbrev pub IsTyped : Array V O → Type 0
  IsTyped a = AreRowsTyped (rows_in a) (tree_in a)

  -- each child has its parent's row count
  abbrev pub children_in : Array V O → List (Array V O)
  children_in a = map (λ t. (t, rows_in a)) (children_of (tree_in a))

  -- the row count of the first array that has not that many rows
  abbrev pub other_rows : ℕ → List (Array V O) → Option ℕ
  other_rows n [] = None
  other_rows n (a ∷ xs) = if nat_eq (rows_in a) n then other_rows n xs else Some (rows_in a)
