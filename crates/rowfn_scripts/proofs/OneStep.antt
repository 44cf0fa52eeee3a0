-- A line makes one step of a session whose trees match its columns.
use Rattle.std.proofs.Common.{◌≡◌, ℕ, ◌<◌, true, Option, Some, None, List, [], ◌∷◌, ◌++◌, sym}
use Rattle.std.proofs.Common.{ap, subst, ◌∙◌, inl, inr, arith}
use Rattle.std.specs.Prelude.{codes}
use Rattle.std.specs.Option.{is_some}
use Rattle.std.proofs.lemmas.List.{ext_get_or}
use Rattle.vortex_errors.specs.declared.error.VortexError.{VortexError}
use Rattle.vortex_types.specs.DTypeTexts.{type_text}
use Rattle.vortex_types.specs.Values.{Value, null}
use Rattle.vortex_columns.specs.ColumnView.{ColumnView}
use Rattle.vortex_columns.specs.Printing.{cells_text}
use Rattle.vortex_interface.specs.Outcomes.{Fault, Outcome, gives, faults, error_of, GivesValue}
use Rattle.vortex_interface.specs.Outcomes.{IsRowFault}
use Rattle.vortex_interface.specs.Meaning.{Meaning}
use Rattle.vortex_interface.specs.Rules.{Rules}
use Rattle.vortex_interface.specs.Weights.{weight_told}
use Rattle.vortex_interface.specs.Running.{HasRowsAfter, ExecutesAfter, RefusesAfter}
use Rattle.vortex_interface.specs.Shipped.{Shipped, shipped_means, row_lawful}
use Rattle.vortex_interface.specs.Functions.{ours, custom}
use Rattle.vortex_interface.specs.Trees.{Tree, leaf, constant, call as call_tree, Trees, no_trees}
use Rattle.vortex_interface.specs.Trees.{tree}
use Rattle.vortex_interface.specs.Printing.{tree_text, tree_texts, function_text}
use Rattle.vortex_interface.specs.Eval.{then_means}
use Rattle.vortex_interface.specs.Eval.{tree_type, tree_types, types_or_none, eval, Settled}
use Rattle.vortex_interface.specs.Eval.{AllSettled, IsFirstFault, IsFirstFaultIn, HasTreeRows}
use Rattle.vortex_interface.specs.Execution.{Executes, RefusesExecution, LeavesFit, other_length}
use Rattle.vortex_interface.proofs.ArithmeticErrs.{refuses_first}
use Rattle.vortex_interface.proofs.FaultyRows.{fault_row, values_in}
use Rattle.vortex_rewriting.specs.Runs.{expression_step}
use Rattle.rowfn_lines.specs.Commands.{Command, show, optimize, run, run_after}
use Rattle.rowfn_scripts.specs.Sessions.{SessionView, Step, goes_on, refuses, column_line}
use Rattle.rowfn_scripts.specs.Sessions.{ShowsTop, Runs, prints, refused, RunsTop, optimized}
use Rattle.rowfn_scripts.specs.Sessions.{OptimizesTop, RunsAfter, prints_after, refused_after}
use Rattle.rowfn_scripts.specs.Sessions.{RunsAfterTop, StepsTo}
use Rattle.rowfn_scripts.specs.Fitting.{Counted, HasText, AllShown, AllHaveTypes, AllFit, Fits}
use Rattle.rowfn_scripts.proofs.Shown.{of_some, of_both, HaveTexts, no_text, shows_text}
use Rattle.rowfn_scripts.proofs.OneRun.{one_run}
use Rattle.rowfn_scripts.proofs.AfterRules.{AreSound, rewritten_shown, refuses_fault}

-- a tree that has a value in each row has no fault
module _ {V O : Type 0} (m : Meaning V O) (cs : List ColumnView) (n : ℕ) (e : VortexError) where
  no_fault : (t : Tree V O) → Settled m cs n t → IsFirstFault m cs n t e → ⊥
  no_fault t h k =
      let r = fault_row m cs n t e k in subst (λ (o : Outcome). GivesValue o) r.3 (h r.0 r.1)

  no_faults : (ts : Trees V O) → AllSettled m cs n ts → IsFirstFaultIn m cs n ts e → ⊥
  no_faults no_trees h k = absurd k
  no_faults (tree t ts) h (inl k) = no_fault t h.0 k
  no_faults (tree t ts) h (inr p) = no_faults ts h.1 p.1

module _ {V O : Type 0} (m : Meaning V O) where
  settled : (cs : List ColumnView) (n : ℕ) (t : Tree V O) (c : ColumnView) → HasTreeRows m cs n t c
      → Settled m cs n t
  settled cs n t c h i lt = subst (λ (o : Outcome). GivesValue o) (sym (h.each i lt)) tt

  executes_or_refuses : (cs : List ColumnView) (n : ℕ) (t : Tree V O) (c : ColumnView)
      (e : VortexError)
      → Executes m cs n t c → RefusesExecution m cs n t e → ⊥
  executes_or_refuses cs n t c e h r =
      no_fault m cs n e t (settled cs n t c h.rows) (refuses_first m cs n t e h.fit h.lengths r)

  one_text : (cs : List ColumnView) (n : ℕ) (t : Tree V O) (c d : ColumnView)
      → HasTreeRows m cs n t c → HasTreeRows m cs n t d → column_line c ≡ column_line d
  one_text cs n t c d g h =
      λ i. ((type_text (types i) ++ codes ":") ++ cells_text (types i) (values i)) ++ (10 ∷ [])
    where
      types : c.dtype ≡ d.dtype
      types = let a = g.dtype in let b = h.dtype in cc

      value : (i : ℕ) (v w : Value) → eval m cs t i ≡ gives v → eval m cs t i ≡ gives w → v ≡ w
      value i v w a b = cc

      values : c.rows ≡ d.rows
      values =
          ext_get_or null c.rows d.rows (g.count ∙ sym h.count)
          (λ i lt. let below : i < n = omega (arith, g.count) in
          value i _ _ (g.each i below) (h.each i below))

  module _ (rs : Rules V O) (limit : ℕ) (cs : List ColumnView) (n : ℕ) (t : Tree V O) where
    one_text_after : (c d : ColumnView) → HasRowsAfter m cs n (expression_step m rs) limit t c
        → HasRowsAfter m cs n (expression_step m rs) limit t d → column_line c ≡ column_line d
    one_text_after c d g h =
        let one = one_run (expression_step m rs) t limit g.last h.last g.run h.run in
        one_text cs n h.last c d
        (subst (λ (u : Tree V O). HasTreeRows m cs n u c) one.0 g.rows) h.rows

    executes_or_refuses_after : (c : ColumnView) (e : VortexError)
        → ExecutesAfter m cs n (expression_step m rs) limit t c
        → RefusesAfter m cs n (expression_step m rs) limit t e → ⊥
    executes_or_refuses_after c e h r =
        let fault = refuses_fault m rs cs n limit t e h.lengths h.fit r in
        let rows = h.rows in
        let one = one_run (expression_step m rs) t limit fault.last rows.last fault.run rows.run in
        no_fault m cs n e rows.last (settled cs n rows.last c rows.rows)
        (subst (λ (u : Tree V O). IsFirstFault m cs n u e) one.0 fault.first)

module _ {V O : Type 0} (m : Meaning V O) (cs : List ColumnView) (n : ℕ) where
  -- a row fault of a shipped function's call is a fault of the function
  row_fault : (f : Shipped) (ts : Trees V O) → AllSettled m cs n ts → (e : VortexError)
      → IsRowFault n (eval m cs (call_tree (ours f) ts)) e
      → (vs : List Value) × (x : Fault)
      × (shipped_means f (types_or_none (tree_types m ts)) vs ≡ faults x) × (e ≡ error_of x)
  row_fault f ts h e r =
      let given = values_in m cs n ts h r.at r.below in
      let means = shipped_means f (types_or_none (tree_types m ts)) in
      (given.0, r.fault, sym (ap (then_means means) given.1) ∙ r.here, r.told)

  same_row_fault : (f : Shipped) (ts : Trees V O) → AllSettled m cs n ts → (e d : VortexError)
      → IsRowFault n (eval m cs (call_tree (ours f) ts)) e
      → IsRowFault n (eval m cs (call_tree (ours f) ts)) d → e ≡ d
  same_row_fault f ts h e d a b =
      let types = types_or_none (tree_types m ts) in
      let p = row_fault f ts h e a in
      let q = row_fault f ts h d b in
      let one = (row_lawful f).one_fault types types p.0 q.0 p.1 q.1 p.2 q.2 in
      p.3 ∙ ap error_of one ∙ sym q.3

  module _ (e d : VortexError) where
    mutual
      one_fault : (t : Tree V O) → HasText t
          → IsFirstFault m cs n t e → IsFirstFault m cs n t d → e ≡ d
      one_fault (leaf l) h a b = absurd a
      one_fault (constant s) h a b = absurd a
      one_fault (call_tree (custom f c) ts) h a b = absurd (no_text f c (tree_texts ts) h.0 h.1)
      one_fault (call_tree (ours f) ts) h (inl a) (inl b) =
          let text = function_text {V = V} {O = O} (ours f) in
          one_fault_in ts (of_some text (tree_texts ts) h.0 h.1) a b
      one_fault (call_tree (ours f) ts) h (inl a) (inr q) = absurd (no_faults m cs n e ts q.0 a)
      one_fault (call_tree (ours f) ts) h (inr p) (inl b) = absurd (no_faults m cs n d ts p.0 b)
      one_fault (call_tree (ours f) ts) h (inr p) (inr q) = same_row_fault f ts p.0 e d p.1 q.1

      one_fault_in : (ts : Trees V O) → HaveTexts ts
          → IsFirstFaultIn m cs n ts e → IsFirstFaultIn m cs n ts d → e ≡ d
      one_fault_in no_trees h a b = absurd a
      one_fault_in (tree t ts) h (inl a) (inl b) =
          let texts = of_both (tree_text t) (tree_texts ts) h.0 h.1 in one_fault t texts.0 a b
      one_fault_in (tree t ts) h (inl a) (inr q) = absurd (no_fault m cs n e t q.0 a)
      one_fault_in (tree t ts) h (inr p) (inl b) = absurd (no_fault m cs n d t p.0 b)
      one_fault_in (tree t ts) h (inr p) (inr q) =
          let texts = of_both (tree_text t) (tree_texts ts) h.0 h.1 in
          one_fault_in ts texts.1 p.1 q.1

module _ {V O : Type 0} (m : Meaning V O) (rs : Rules V O) (laws : AreSound m rs)
    (s : SessionView V O) where
  -- the steps of a tree that matches the columns
  module _ (n : ℕ) (t : Tree V O) (counted : other_length n s.columns ≡ None)
      (fit : LeavesFit s.columns t) (shown : HasText t) (a b : Step V O) where
    printed_one : (c d : List ℕ) → a ≡ goes_on (record s { printed = s.printed ++ c }) → c ≡ d
        → b ≡ goes_on (record s { printed = s.printed ++ d }) → a ≡ b
    printed_one c d x e y =
        x ∙ ap (λ (bytes : List ℕ). goes_on (record s { printed = s.printed ++ bytes })) e ∙ sym y

    run_once : Runs m n t s a → Runs m n t s b → a ≡ b
    run_once (prints c h x) (prints d k y) =
        printed_one (column_line c) (column_line d) x (one_text m s.columns n t c d h.rows k.rows) y
    run_once (prints c h x) (refused e k y) =
        absurd (executes_or_refuses m s.columns n t c e h k)
    run_once (refused e h x) (prints c k y) =
        absurd (executes_or_refuses m s.columns n t c e k h)
    run_once (refused e h x) (refused d k y) =
        let first = refuses_first m s.columns n t e fit counted h in
        let second = refuses_first m s.columns n t d fit counted k in
        x ∙ ap refuses (one_fault m s.columns n e d t shown first second) ∙ sym y

    run_after_once : (limit : ℕ) → is_some (tree_type m t) ≡ true → RunsAfter m rs limit n t s a
        → RunsAfter m rs limit n t s b → a ≡ b
    run_after_once limit typed (prints_after c h x) (prints_after d k y) =
        printed_one (column_line c) (column_line d) x
        (one_text_after m rs limit s.columns n t c d h.rows k.rows) y
    run_after_once limit typed (prints_after c h x) (refused_after e k y) =
        absurd (executes_or_refuses_after m rs limit s.columns n t c e h k)
    run_after_once limit typed (refused_after e h x) (prints_after c k y) =
        absurd (executes_or_refuses_after m rs limit s.columns n t c e k h)
    run_after_once limit typed (refused_after e h x) (refused_after d k y) =
        let p = refuses_fault m rs s.columns n limit t e counted fit h in
        let q = refuses_fault m rs s.columns n limit t d counted fit k in
        let one = one_run (expression_step m rs) t limit p.last q.last p.run q.run in
        let text = rewritten_shown m rs laws limit t q.last q.run typed shown in
        let first = subst (λ (u : Tree V O). IsFirstFault m s.columns n u e) one.0 p.first in
        x ∙ ap refuses (one_fault m s.columns n e d q.last text first q.first) ∙ sym y

  -- the same for the tree on top
  runs_once : (r : Option ℕ) (stack : List (Tree V O)) → Counted r s.columns
      → AllFit s.columns stack → AllShown stack → (a b : Step V O)
      → RunsTop m r stack s a → RunsTop m r stack s b → a ≡ b
  runs_once None stack counted fit shown a b h k = h ∙ sym k
  runs_once (Some n) [] counted fit shown a b h k = h ∙ sym k
  runs_once (Some n) (t ∷ stack) counted fit shown a b h k =
      run_once n t counted fit.0 shown.0 a b h k

  runs_after_once : (limit : ℕ) (r : Option ℕ) (stack : List (Tree V O)) → Counted r s.columns
      → AllFit s.columns stack → AllHaveTypes m stack → AllShown stack → (a b : Step V O)
      → RunsAfterTop m rs limit r stack s a → RunsAfterTop m rs limit r stack s b → a ≡ b
  runs_after_once limit None stack counted fit typed shown a b h k = h ∙ sym k
  runs_after_once limit (Some n) [] counted fit typed shown a b h k = h ∙ sym k
  runs_after_once limit (Some n) (t ∷ stack) counted fit typed shown a b h k =
      run_after_once n t counted fit.0 shown.0 a b limit typed.0 h k

  optimizes_once : (r : Option ℕ) (stack : List (Tree V O)) (a b : Step V O)
      → OptimizesTop m rs r stack s a → OptimizesTop m rs r stack s b → a ≡ b
  optimizes_once None stack a b h k = h ∙ sym k
  optimizes_once (Some n) [] a b h k = h ∙ sym k
  optimizes_once (Some n) (t ∷ stack) a b h k =
      let one = one_run (expression_step m rs) t (weight_told m t) h.last k.last h.run k.run in
      h.is ∙ (λ i. optimized m rs (one.1 i) (one.0 i) stack s) ∙ sym k.is

  shows_once : (r : Option ℕ) (stack : List (Tree V O)) → AllShown stack → (a b : Step V O)
      → ShowsTop r stack s a → ShowsTop r stack s b → a ≡ b
  shows_once None stack shown a b h k = h ∙ sym k
  shows_once (Some n) [] shown a b h k = h ∙ sym k
  shows_once (Some n) (t ∷ stack) shown a b h k =
      shows_text s t a shown.0 h ∙ sym (shows_text s t b shown.0 k)

  pub one_step : Fits m s → (k : Command) (a b : Step V O) → StepsTo m rs k s a
      → StepsTo m rs k s b → a ≡ b
  one_step fits show a b p q = shows_once s.row_count s.stack fits.shown a b p q
  one_step fits optimize a b p q = optimizes_once s.row_count s.stack a b p q
  one_step fits run a b p q =
      runs_once s.row_count s.stack fits.counted fits.fit fits.shown a b p q
  one_step fits (run_after limit) a b p q =
      runs_after_once limit s.row_count s.stack fits.counted fits.fit fits.with_types fits.shown a
      b p q
  one_step fits k a b p q = p ∙ sym q
