-- Laws of rules: a rewritten tree has the type and the values of the old one, and the validity of a
-- tree is true where it is not null.
use Rattle.std.specs.Prelude.{◌≡◌, ℕ, ◌<◌, List, Option, Some, ⊤, false, not, length}
use Rattle.vortex_types.specs.LogicalTypes.{LogicalType, bool_type}
use Rattle.vortex_types.specs.Values.{Value, truth, is_null}
use Rattle.vortex_types.specs.Typing.{HasType}
use Rattle.vortex_columns.specs.ColumnView.{ColumnView, row, FormTells}
use Rattle.vortex_interface.specs.Outcomes.{gives}
use Rattle.vortex_interface.specs.Meaning.{Meaning}
use Rattle.vortex_interface.specs.Functions.{custom}
use Rattle.vortex_interface.specs.Trees.{Leaf, place, held, Tree, leaf, constant, call, Trees}
use Rattle.vortex_interface.specs.Trees.{no_trees, tree}
use Rattle.vortex_interface.specs.Leaves.{IsLeafOf}
use Rattle.vortex_interface.specs.Eval.{leaf_value, tree_type, eval}
use Rattle.vortex_interface.specs.Rules.{Rules}
use Rattle.vortex_interface.specs.Bound.{OnlyPlaces}

-- a held column has that row, a value of its type, and its form is right about it
pub record HasTypedRow (c : ColumnView) (i : ℕ) : Type 0 where
  pub within : i < length c.rows
  pub typed : HasType c.dtype (row c.rows i)
  pub told : FormTells c.form (row c.rows i)

-- the leaf's value in row i has the leaf's type
abbrev pub LeafHasRow : List ColumnView → ℕ → Leaf → Type 0
LeafHasRow cs i (place p name t) = HasType t (leaf_value cs (place p name t) i)
LeafHasRow cs i (held c) = HasTypedRow c i

-- the leaves and the constants of a tree have values of their types in row i
abbrev mutual
  pub HasRow : {V O : Type 0} → List ColumnView → ℕ → Tree V O → Type 0
  HasRow cs i (leaf l) = LeafHasRow cs i l
  HasRow cs i (constant s) = HasType s.dtype s.value
  HasRow cs i (call f ts) = AllHaveRow cs i ts

  -- so have those of several trees
  pub AllHaveRow : {V O : Type 0} → List ColumnView → ℕ → Trees V O → Type 0
  AllHaveRow cs i no_trees = ⊤
  AllHaveRow cs i (tree t ts) = HasRow cs i t × AllHaveRow cs i ts

-- The new tree requires no more of columns: each place in a scope that is a leaf of it is one of
-- the old tree, of the same name and type; in each row in which the old tree's leaves and constants
-- have values of their types, its own have; and it holds no column unless the old one does.
pub record AsksNoMore {V O : Type 0} (t u : Tree V O) : Type 0 where
  pub leaves : (p : ℕ) (name : List ℕ) (k : LogicalType) → IsLeafOf (place p name k) u
      → IsLeafOf (place p name k) t
  pub rows : (cs : List ColumnView) (i : ℕ) → HasRow cs i t → HasRow cs i u
  pub places : OnlyPlaces t → OnlyPlaces u

-- The new tree has the old one's type, requires no more of columns, and has the same value in each
-- row in which the old one has a value; so no fault is added.
pub record Rewrites {V O : Type 0} (m : Meaning V O) (t u : Tree V O) : Type 0 where
  pub dtype : tree_type m u ≡ tree_type m t
  pub asks : AsksNoMore t u
  pub value : (cs : List ColumnView) (i : ℕ) (w : Value) → HasRow cs i t
      → eval m cs t i ≡ gives w → eval m cs u i ≡ gives w

-- The second tree is of Bool without null, requires no more of columns, and in each row in which
-- the first one has a value it is whether that is not null.
pub record IsValidityOf {V O : Type 0} (m : Meaning V O) (t v : Tree V O) : Type 0 where
  pub dtype : tree_type m v ≡ Some (bool_type false)
  pub asks : AsksNoMore t v
  pub value : (cs : List ColumnView) (i : ℕ) (w : Value) → HasRow cs i t
      → eval m cs t i ≡ gives w → eval m cs v i ≡ gives (truth (not (is_null w)))

-- for each well-typed call of a caller's function:
-- validity: a tree that is returned as its validity is true where it is not null
-- reduce, simplify: the reduced or simplified tree is a rewrite of it
pub record LawfulRules {V O : Type 0} (m : Meaning V O) (r : Rules V O) : Type 0 where
  pub validity : (f : V) (o : O) (ts : Trees V O) (t : LogicalType) (v : Tree V O)
      → tree_type m (call (custom f o) ts) ≡ Some t → r.validity_of f o ts ≡ Some v
      → IsValidityOf m (call (custom f o) ts) v
  pub reduce : (f : V) (o : O) (ts : Trees V O) (t : LogicalType) (u : Tree V O)
      → tree_type m (call (custom f o) ts) ≡ Some t → r.reduce_of f o ts ≡ Some u
      → Rewrites m (call (custom f o) ts) u
  pub simplify : (f : V) (o : O) (ts : Trees V O) (t : LogicalType) (u : Tree V O)
      → tree_type m (call (custom f o) ts) ≡ Some t → r.simplify_of f o ts ≡ Some u
      → Rewrites m (call (custom f o) ts) u

-- a rule of trees that makes rewrites of well-typed ones
abbrev pub IsSound : {V O : Type 0} → Meaning V O → (Tree V O → Option (Tree V O)) → Type 0
IsSound {V} {O} m rule =
    (t u : Tree V O) (k : LogicalType) → tree_type m t ≡ Some k → rule t ≡ Some u → Rewrites m t u
