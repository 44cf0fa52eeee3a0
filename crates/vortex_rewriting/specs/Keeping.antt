-- What a rewritten tree keeps of the rows of the old one.
use Rattle.std.specs.Prelude.{◌≡◌, ℕ, ◌<◌, List, [], None}
use Rattle.vortex_types.specs.Values.{Value}
use Rattle.vortex_columns.specs.ColumnView.{ColumnView}
use Rattle.vortex_interface.specs.Outcomes.{gives, Fault, faults}
use Rattle.vortex_interface.specs.Meaning.{Meaning}
use Rattle.vortex_interface.specs.Trees.{Tree}
use Rattle.vortex_interface.specs.Eval.{eval}
use Rattle.vortex_interface.specs.Execution.{LeavesFit, other_length}
use Rattle.vortex_interface.specs.Rewrites.{Rewrites}
use Rattle.vortex_functions.specs.Arrays.{Array, tree_in, rows_in}

module _ {V O : Type 0} (m : Meaning V O) where
  -- in each of n rows the second tree has the first one's value where that has one, and faults only
  -- where that faults
  pub record KeepsRows (cs : List ColumnView) (n : ℕ) (t u : Tree V O) : Type 0 where
    pub values : (i : ℕ) (w : Value) → i < n → eval m cs t i ≡ gives w → eval m cs u i ≡ gives w
    pub no_new_fault : (i : ℕ) (y : Fault) → i < n → eval m cs u i ≡ faults y
        → (x : Fault) × (eval m cs t i ≡ faults x)

  -- over columns that match the tree, each of n rows, so does every rewrite of it
  abbrev pub RewritesKeepRows : List ColumnView → ℕ → Tree V O → Type 0
  RewritesKeepRows cs n t = (u : Tree V O) → Rewrites m t u → LeavesFit cs t
      → other_length n cs ≡ None → KeepsRows cs n t u

  -- so does every rewrite of an array tree, in its rows
  abbrev pub RewritesKeepRowsOfArray : Array V O → Type 0
  RewritesKeepRowsOfArray a =
      (u : Tree V O) → Rewrites m (tree_in a) u → KeepsRows [] (rows_in a) (tree_in a) u
