-- A rewrite keeps the rows of a tree over columns that have its rows.
use Rattle.std.proofs.Common.{ℕ, List, [], refl}
use Rattle.std.specs.Prelude.{All}
use Rattle.vortex_columns.specs.ColumnView.{ColumnView, AreTyped}
use Rattle.vortex_interface.specs.Meaning.{Meaning}
use Rattle.vortex_interface.specs.Trees.{Tree}
use Rattle.vortex_interface.specs.Eval.{eval}
use Rattle.vortex_interface.specs.Made.{IsBound}
use Rattle.vortex_interface.specs.Rewrites.{Rewrites}
use Rattle.vortex_interface.proofs.AfterRun.{bound_made, old_fault}
use Rattle.vortex_interface.proofs.RewrittenRows.{HasRows, fitting_row}
use Rattle.vortex_functions.specs.Arrays.{Array, tree_in, rows_in, IsTyped}
use Rattle.vortex_rewriting.specs.Keeping.{KeepsRows, RewritesKeepRows, RewritesKeepRowsOfArray}

module _ {V O : Type 0} (m : Meaning V O) where
  rows_kept : (cs : List ColumnView) (n : ℕ) (t u : Tree V O) → HasRows m cs n t
      → Rewrites m t u → KeepsRows m cs n t u
  rows_kept cs n t u typed a = record {
    values = λ i w lt e. a.value cs i w (typed i lt) e;
    no_new_fault = λ i y lt e. old_fault m cs n t u a typed i (eval m cs t i) y lt refl e;
  }

  pub rewrites_keep_rows : (cs : List ColumnView) (n : ℕ) (t : Tree V O) → IsBound t
      → All (λ c. AreTyped c.dtype c.rows) cs → RewritesKeepRows m cs n t
  rewrites_keep_rows cs n t bound typed = λ u a fit lengths.
      rows_kept cs n t u
      (λ i lt. fitting_row cs n lengths typed t i lt fit (bound_made n t bound)) a

  pub rewrites_keep_rows_of_array : (a : Array V O) → IsTyped a → RewritesKeepRowsOfArray m a
  rewrites_keep_rows_of_array a typed = λ u k. rows_kept [] (rows_in a) (tree_in a) u typed k
