-- The result or error of the tree that a run leads to, compared with the old tree.
use Rattle.std.proofs.Common.{◌≡◌, ℕ, ◌<◌, List, Option, Some, None, refl, sym, ◌∙◌}
use Rattle.std.specs.Prelude.{All}
use Rattle.vortex_errors.specs.declared.error.VortexError.{VortexError}
use Rattle.vortex_types.specs.LogicalTypes.{LogicalType}
use Rattle.vortex_columns.specs.ColumnView.{ColumnView, row, AreTyped}
use Rattle.vortex_interface.specs.Outcomes.{Outcome, gives, faults, Fault}
use Rattle.vortex_interface.specs.Meaning.{Meaning}
use Rattle.vortex_interface.specs.Trees.{Leaf, place, held, Tree, leaf, constant, call, Trees}
use Rattle.vortex_interface.specs.Trees.{no_trees, tree}
use Rattle.vortex_interface.specs.Eval.{tree_type, eval, HasTreeRows, IsFirstFault}
use Rattle.vortex_interface.specs.Execution.{LeavesFit, other_length, Executes, RefusesExecution}
use Rattle.vortex_interface.specs.Rewrites.{Rewrites, IsSound}
use Rattle.vortex_interface.specs.Made.{IsMadeLeaf, IsMade, AllMade, IsPlace, IsBound, AllBound}
use Rattle.vortex_interface.specs.Driver.{RunsTo}
use Rattle.vortex_interface.specs.Running.{KeepsRows, FaultsSomewhere, HasRowsAfter, IsFaultAfter}
use Rattle.vortex_interface.specs.Running.{ExecutesAfter, RefusesAfter, faulty}
use Rattle.vortex_interface.proofs.Leaves.{leaves_still_fit}
use Rattle.vortex_interface.proofs.Driving.{runs_sound}
use Rattle.vortex_interface.proofs.RewrittenRows.{HasRows, fitting_row}
use Rattle.vortex_interface.proofs.RuleAnswers.{gives_is}
use Rattle.vortex_interface.proofs.FaultyRows.{no_value_faults, fault_row}
use Rattle.vortex_interface.proofs.ArithmeticErrs.{refuses_first}

-- an expression is as constructors make it, over any rows
place_made : (n : ℕ) (l : Leaf) → IsPlace l → IsMadeLeaf n l
place_made n (place p name t) h = tt
place_made n (held c) h = absurd h

module _ {V O : Type 0} (n : ℕ) where
  mutual
    pub bound_made : (t : Tree V O) → IsBound t → IsMade n t
    bound_made (leaf l) h = place_made n l h
    bound_made (constant s) h = h
    bound_made (call f ts) h = all_bound_made ts h

    all_bound_made : (ts : Trees V O) → AllBound ts → AllMade n ts
    all_bound_made no_trees h = tt
    all_bound_made (tree t ts) h = (bound_made t h.0, all_bound_made ts h.1)

module _ {V O : Type 0} (m : Meaning V O) (cs : List ColumnView) (n : ℕ) (t u : Tree V O)
    (a : Rewrites m t u) (typed : HasRows m cs n t) where
  -- where the new tree faults the old one does
  pub old_fault : (i : ℕ) (x : Outcome) (y : Fault) → i < n → eval m cs t i ≡ x
      → eval m cs u i ≡ faults y → (z : Fault) × (x ≡ faults z)
  old_fault i (faults z) y lt e h = (z, refl)
  old_fault i (gives w) y lt e h =
      absurd (no_value_faults (eval m cs u i) y h w (a.value cs i w (typed i lt) e))

  old_faults : FaultsSomewhere m cs n u → FaultsSomewhere m cs n t
  old_faults k =
      let z = old_fault k.0 (eval m cs t k.0) k.2 k.1 refl k.3 in (k.0, k.1, z.0, z.1)

  rows_kept : (c : ColumnView) → HasTreeRows m cs n u c → KeepsRows m cs n t c
  rows_kept c k i w lt e =
      gives_is (row c.rows i) w (sym (k.each i lt) ∙ a.value cs i w (typed i lt) e)

module _ {V O : Type 0} (m : Meaning V O) (rule : Tree V O → Option (Tree V O))
    (sound : IsSound m rule) (cs : List ColumnView) (n limit : ℕ) (t u : Tree V O)
    (k : LogicalType) (is : tree_type m t ≡ Some k) (run : RunsTo rule limit t u) where
  pub run_rewrites : Rewrites m t u
  run_rewrites = runs_sound m rule sound run.0 t u k is run.2

  module _ (typed : HasRows m cs n t) where
    pub rows_after : (c : ColumnView) → HasTreeRows m cs n u c
        → HasRowsAfter m cs n rule limit t c
    rows_after c h = record {
      last = u;
      run = run;
      rows = h;
      kept = rows_kept m cs n t u run_rewrites typed c h;
    }

    pub fault_after : (e : VortexError) → IsFirstFault m cs n u e
        → IsFaultAfter m cs n rule limit t e
    fault_after e h = record {
      last = u;
      run = run;
      first = h;
      old = old_faults m cs n t u run_rewrites typed (fault_row m cs n u e h);
    }

  -- over typed columns that match the old tree, which is an expression
  module _ (typed : All (λ c. AreTyped c.dtype c.rows) cs) (bound : IsBound t)
      (fit : LeavesFit cs t) (lengths : other_length n cs ≡ None) where
    with_rows : HasRows m cs n t
    with_rows = λ i lt. fitting_row cs n lengths typed t i lt fit (bound_made n t bound)

    pub executes_after : (c : ColumnView) → Executes m cs n u c
        → ExecutesAfter m cs n rule limit t c
    executes_after c h =
        record { fit = fit; lengths = lengths; rows = rows_after with_rows c h.rows }

    pub refuses_after : (e : VortexError) → RefusesExecution m cs n u e
        → RefusesAfter m cs n rule limit t e
    refuses_after e h =
        let fits = leaves_still_fit cs t u run_rewrites.asks fit in
        faulty fit lengths (fault_after with_rows e (refuses_first m cs n u e fits lengths h))
