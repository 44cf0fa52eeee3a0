-- How runs end, and the result of executing after them.
use Rattle.std.proofs.Common.{◌≡◌, ◌↔◌, ℕ, ◌≤◌, Bool, true, false, IsTrue, Option, Some, None, refl}
use Rattle.std.proofs.Common.{inl, inr, subst, Ok, Err}
use Rattle.std.specs.Cow.{cow_value}
use Rattle.std.specs.declared.borrow.Cow.{Cow}
use Rattle.std.specs.Prelude.{All, List, [], Result}
use Rattle.vortex_errors.specs.declared.error.VortexError.{VortexError}
use Rattle.vortex_errors.proofs.Answering.{UnlessMemory-weaker}
use Rattle.vortex_types.specs.LogicalTypes.{LogicalType}
use Rattle.vortex_columns.specs.ColumnView.{ColumnView, AreTyped}
use Rattle.vortex_interface.specs.Meaning.{Meaning, Lawful}
use Rattle.vortex_interface.specs.Trees.{Tree}
use Rattle.vortex_interface.specs.Eval.{tree_type, HasTreeRows, IsFirstFault}
use Rattle.vortex_interface.specs.Execution.{RefusesExecution}
use Rattle.vortex_interface.specs.Made.{IsBound}
use Rattle.vortex_interface.specs.Rules.{Rules}
use Rattle.vortex_interface.specs.Rewrites.{IsSound, LawfulRules}
use Rattle.vortex_interface.specs.Driver.{step, Runs, RunsTo}
use Rattle.vortex_interface.specs.Running.{RefusesAfter, HasRowsAfter, IsFaultAfter}
use Rattle.vortex_interface.proofs.AfterRun.{executes_after, refuses_after, rows_after, fault_after}
use Rattle.vortex_functions.specs.Executing.{Fits, AnswersExecution, LendsLeaf}
use Rattle.vortex_functions.specs.Arrays.{Array, tree_in, rows_in, IsTyped}
use Rattle.vortex_rewriting.specs.Rules.{expression_rule, expression_sound, array_rule, array_sound}
use Rattle.vortex_rewriting.specs.Runs.{expression_step, array_step, AnswersRun}
use Rattle.vortex_rewriting.proofs.Optimizing.{first_rule_sound}

-- a run whose end is given by a flag
pub runs_to : {V O : Type 0} (rule : Tree V O → Option (Tree V O)) (limit n : ℕ) (t u : Tree V O)
    (done : Bool) → Runs rule n t u → n ≤ limit → (IsTrue done ↔ (step rule u ≡ None))
    → (done ≡ false → n ≡ limit) → RunsTo rule limit t u
runs_to rule limit n t u true run most over stopped = (n, most, run, inl (over.0 refl))
runs_to rule limit n t u false run most over stopped = (n, most, run, inr (stopped refl))

module _ {V O : Type 0} (m : Meaning V O) (lawful : Lawful m) (r : Rules V O)
    (rules : LawfulRules m r) (limit : ℕ) where
  expressions_sound : IsSound m (expression_step m r)
  expressions_sound =
      first_rule_sound m (expression_rule m r) (expression_sound m r lawful rules)

  arrays_sound : IsSound m (array_step m r)
  arrays_sound = first_rule_sound m (array_rule m r) (array_sound m r lawful rules)

  pub run_answers : (cs : List ColumnView) (n : ℕ) (t u : Tree V O) (k : LogicalType)
      (result : Result (Cow ColumnView) VortexError) → tree_type m t ≡ Some k → IsBound t
      → Fits cs n t → All (λ c. AreTyped c.dtype c.rows) cs
      → RunsTo (expression_step m r) limit t u → AnswersExecution m cs n u result
      → (Fits cs n u → LendsLeaf cs u result) → AnswersRun m r limit cs n t result
  run_answers cs n t u k (Ok c) is bound fits typed run h lends =
      let after =
      executes_after m (expression_step m r) expressions_sound cs n limit t u k is run typed bound
      fits.0 fits.1 (cow_value c) h in
      let rows : HasRowsAfter m cs n (expression_step m r) limit t (cow_value c) =
      record { last = u; run = run; rows = h.rows; kept = after.rows.kept } in
      record {
        executes = record { fit = fits.0; lengths = fits.1; rows = rows };
        borrowed = lends (h.fit, h.lengths);
      }
  run_answers cs n t u k (Err e) is bound fits typed run h lends =
      let rule = expression_step m r in
      UnlessMemory-weaker (RefusesExecution m cs n u) (RefusesAfter m cs n rule limit t)
      (refuses_after m rule expressions_sound cs n limit t u k is run typed bound fits.0 fits.1) e h

  module _ (a b : Array V O) (k : LogicalType) (is : tree_type m (tree_in a) ≡ Some k)
      (typed : IsTyped a) (same : rows_in b ≡ rows_in a)
      (run : RunsTo (array_step m r) limit (tree_in a) (tree_in b)) where
    pub array_rows_after : (c : ColumnView) → HasTreeRows m [] (rows_in b) (tree_in b) c
        → HasRowsAfter m [] (rows_in a) (array_step m r) limit (tree_in a) c
    array_rows_after c h =
        rows_after m (array_step m r) arrays_sound [] (rows_in a) limit (tree_in a) (tree_in b) k
        is run typed c (subst (λ (n : ℕ). HasTreeRows m [] n (tree_in b) c) same h)

    pub array_fault_after : (e : VortexError) → IsFirstFault m [] (rows_in b) (tree_in b) e
        → IsFaultAfter m [] (rows_in a) (array_step m r) limit (tree_in a) e
    array_fault_after e h =
        fault_after m (array_step m r) arrays_sound [] (rows_in a) limit (tree_in a) (tree_in b) k
        is run typed e (subst (λ (n : ℕ). IsFirstFault m [] n (tree_in b) e) same h)
