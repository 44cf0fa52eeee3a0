-- Results of executing an expression over columns.
use Rattle.std.specs.Prelude.{◌≡◌, ℕ, List, [], ◌∷◌, Option, Some, None, ⊤, length, slice_get}
use Rattle.std.specs.Prelude.{nat_eq, if◌then◌else◌}
use Rattle.vortex_errors.specs.declared.error.VortexError.{VortexError}
use Rattle.vortex_errors.specs.declared.error.VortexError.TheVariants.{ScopeMismatch}
use Rattle.vortex_errors.specs.declared.error.VortexError.TheVariants.{LengthMismatch}
use Rattle.vortex_columns.specs.ColumnView.{ColumnView}
use Rattle.vortex_interface.specs.Meaning.{Meaning}
use Rattle.vortex_interface.specs.Eval.{HasTreeRows, IsFirstFault}
use Rattle.vortex_interface.specs.Trees.{Leaf, place, held, Tree, leaf, constant, call, Trees}
use Rattle.vortex_interface.specs.Trees.{no_trees, tree}

-- the leaf's column exists, and has the leaf's type
abbrev pub LeafFits : List ColumnView → Leaf → Type 0
LeafFits cs (place p name t) = (c : ColumnView) × (slice_get cs p ≡ Some c) × (c.dtype ≡ t)
LeafFits cs (held c) = ⊤

abbrev mutual
  pub LeavesFit : {V O : Type 0} → List ColumnView → Tree V O → Type 0
  LeavesFit cs (leaf l) = LeafFits cs l
  LeavesFit cs (constant s) = ⊤
  LeavesFit cs (call f ts) = AllLeavesFit cs ts

  pub AllLeavesFit : {V O : Type 0} → List ColumnView → Trees V O → Type 0
  AllLeavesFit cs no_trees = ⊤
  AllLeavesFit cs (tree t ts) = LeavesFit cs t × AllLeavesFit cs ts

-- the length of the first column that has not that many rows
abbrev pub other_length : ℕ → List ColumnView → Option ℕ
other_length n [] = None
other_length n (c ∷ cs) =
    if nat_eq (length c.rows) n then other_length n cs else Some (length c.rows)

-- the leaves match, each column has the row count, and the result is the tree's meaning row by row
pub record Executes {V O : Type 0} (m : Meaning V O) (cs : List ColumnView) (n : ℕ) (t : Tree V O)
    (c : ColumnView) : Type 0 where
  pub fit : LeavesFit cs t
  pub lengths : other_length n cs ≡ None
  pub rows : HasTreeRows m cs n t c

-- columns that do not match a tree: first a leaf that does not match, then a column of another
-- length
pub data RefusesColumns {V O : Type 0} (cs : List ColumnView) (n : ℕ) (t : Tree V O)
    (e : VortexError) : Type 0 where
  unfit : ¬ LeavesFit cs t → e ≡ ScopeMismatch → RefusesColumns cs n t e
  uneven : (l : ℕ) → LeavesFit cs t → other_length n cs ≡ Some l → e ≡ LengthMismatch n l
      → RefusesColumns cs n t e

-- first columns that do not match, then the first fault
pub data RefusesExecution {V O : Type 0} (m : Meaning V O) (cs : List ColumnView) (n : ℕ)
    (t : Tree V O) (e : VortexError) : Type 0 where
  misfit : RefusesColumns cs n t e → RefusesExecution m cs n t e
  faulty : LeavesFit cs t → other_length n cs ≡ None → IsFirstFault m cs n t e
      → RefusesExecution m cs n t e
