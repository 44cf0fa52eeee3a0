-- Each script has an outcome if memory suffices: each line makes a step of a session that
-- lines reach.
use Rattle.std.proofs.Common.{◌≡◌, ◌≢◌, ◌⊎◌, inl, inr, ℕ, zero, suc, ◌+◌, ◌<◌, true}
use Rattle.std.proofs.Common.{Option, Some, None, List, [], ◌∷◌, ◌++◌, length, refl, sym, ap}
use Rattle.std.proofs.Common.{subst, ◌∙◌, arith}
use Rattle.std.specs.Prelude.{IfSome}
use Rattle.std.specs.Option.{is_some}
use Rattle.vortex_errors.specs.declared.error.VortexError.{VortexError}
use Rattle.vortex_errors.specs.declared.error.VortexError.TheVariants.{OutOfMemory}
use Rattle.vortex_errors.specs.Answers.{UnlessMemory}
use Rattle.vortex_types.specs.LogicalTypes.{find_field}
use Rattle.vortex_columns.specs.ValidityView.{array}
use Rattle.vortex_types.specs.Values.{Value}
use Rattle.vortex_columns.specs.ColumnView.{ColumnView, row}
use Rattle.vortex_interface.specs.Outcomes.{Fault, arithmetic, custom, Outcome, gives, faults}
use Rattle.vortex_interface.specs.Outcomes.{error_of, GivesValue}
use Rattle.vortex_interface.specs.Meaning.{Meaning}
use Rattle.vortex_interface.specs.Rules.{Rules}
use Rattle.vortex_interface.specs.Weights.{weight_told}
use Rattle.vortex_interface.specs.Driver.{RunsTo}
use Rattle.vortex_interface.specs.Rewrites.{HasRow}
use Rattle.vortex_interface.specs.Running.{faulty as faulty_after}
use Rattle.vortex_interface.proofs.AfterRun.{rows_after, fault_after}
use Rattle.vortex_interface.proofs.FaultyRows.{value_in}
use Rattle.vortex_interface.proofs.Leaves.{leaves_still_fit}
use Rattle.vortex_interface.proofs.FirstFaults.{first_fault_of}
use Rattle.vortex_rewriting.specs.Runs.{expression_step}
use Rattle.vortex_interface.specs.Shipped.{shipped_called}
use Rattle.vortex_interface.specs.Trees.{Tree, leaf, constant, call as call_tree, Trees, no_trees}
use Rattle.vortex_interface.specs.Trees.{tree}
use Rattle.vortex_interface.specs.Eval.{tree_type, eval, Settled}
use Rattle.vortex_interface.specs.Eval.{IsFirstFault, IsFirstFaultIn}
use Rattle.vortex_interface.specs.Execution.{Executes, LeavesFit, other_length, faulty}
use Rattle.rowfn_lines.specs.Commands.{Command, nothing, malformed, rows, column, get, literal}
use Rattle.rowfn_lines.specs.Commands.{call, show, optimize, run, run_after}
use Rattle.rowfn_lines.specs.Lines.{lines_of}
use Rattle.rowfn_scripts.specs.Sessions.{column_line}
use Rattle.rowfn_scripts.specs.declared.ending.End.{End}
use Rattle.rowfn_scripts.specs.declared.ending.End.TheVariants.{Done, Refused, Malformed}
use Rattle.rowfn_scripts.specs.Sessions.{SessionView, Step, goes_on, refuses, is_malformed, fresh}
use Rattle.rowfn_scripts.specs.Sessions.{with_rows, after_rows, with_column}
use Rattle.rowfn_scripts.specs.Sessions.{with_leaf, with_literal}
use Rattle.rowfn_scripts.specs.Sessions.{with_call, shown_by, ShowsTop, prints, refused}
use Rattle.rowfn_scripts.specs.Sessions.{RunsTop, optimized, OptimizesTop, prints_after}
use Rattle.rowfn_scripts.specs.Sessions.{refused_after, RunsAfterTop, StepsTo}
use Rattle.rowfn_scripts.specs.Scripts.{Reaches, begins, one_more, command_at, EndsAt, IsOutcome}
use Rattle.rowfn_scripts.specs.Fitting.{Counted, AllShown, AllHaveTypes, AllFit}
use Rattle.rowfn_scripts.specs.Fitting.{HaveRows, Fits}
use Rattle.rowfn_scripts.specs.Telling.{EachHasFullOutcome}
use Rattle.rowfn_scripts.proofs.OneRun.{up_to, some_run}
use Rattle.rowfn_scripts.proofs.AfterRules.{the_type, AreSound, rewritten, rewritten_typed}
use Rattle.rowfn_scripts.proofs.Fitting.{reached_fits}
use Rattle.rowfn_scripts.proofs.Steps.{of_rows, after, of_column, of_leaf, of_call}

-- a fault is reported, and not out of memory
tells_no_want : (f : Fault) → error_of f ≢ OutOfMemory
tells_no_want (arithmetic o) e = cc
tells_no_want (custom n) e = cc

below_none : (P : ℕ → Type 0) (i : ℕ) → i < 0 → P i
below_none P i h = absurd (omega arith)

-- a row of the first n faults, or each has a value
abbrev RowFaults : ℕ → (ℕ → Outcome) → Type 0
RowFaults n o = (i : ℕ) × (i < n) × (f : Fault) × (o i ≡ faults f)

rows_settle : (o : ℕ → Outcome) (n : ℕ) → ((i : ℕ) → i < n → GivesValue (o i)) ⊎ RowFaults n o
rows_settle o zero = inl (below_none (λ i. GivesValue (o i)))
rows_settle o (suc n) = by (rows_settle o n) (o n) refl
  where
    by : ((i : ℕ) → i < n → GivesValue (o i)) ⊎ RowFaults n o → (x : Outcome) → o n ≡ x
        → ((i : ℕ) → i < suc n → GivesValue (o i)) ⊎ RowFaults (suc n) o
    by (inr p) x e = let lt = p.1 in inr (p.0, omega (arith, lt), p.2, p.3)
    by (inl h) (faults f) e = inr (n, omega arith, f, e)
    by (inl h) (gives v) e = inl (λ i lt. here i (up_to i n lt))
      where
        here : (i : ℕ) → (i < n) ⊎ (i ≡ n) → GivesValue (o i)
        here i (inl lt) = h i lt
        here i (inr same) = subst GivesValue (sym (ap o same ∙ e)) tt

module _ {V O : Type 0} (m : Meaning V O) (cs : List ColumnView) (n : ℕ) where
  mutual
    no_want : (t : Tree V O) (e : VortexError) → IsFirstFault m cs n t e → e ≢ OutOfMemory
    no_want (leaf l) e k = absurd k
    no_want (constant s) e k = absurd k
    no_want (call_tree f ts) e (inl k) = no_want_in ts e k
    no_want (call_tree f ts) e (inr p) = λ q. tells_no_want p.1.fault (sym p.1.told ∙ q)

    no_want_in : (ts : Trees V O) (e : VortexError) → IsFirstFaultIn m cs n ts e
        → e ≢ OutOfMemory
    no_want_in no_trees e k = absurd k
    no_want_in (tree t ts) e (inl k) = no_want t e k
    no_want_in (tree t ts) e (inr p) = no_want_in ts e p.1

  abbrev Faults : Tree V O → Type 0
  Faults t = (e : VortexError) × IsFirstFault m cs n t e × (e ≢ OutOfMemory)

  settled_or_faulty : (t : Tree V O) → Settled m cs n t ⊎ Faults t
  settled_or_faulty t = by (rows_settle (eval m cs t) n)
    where
      by : Settled m cs n t ⊎ RowFaults n (eval m cs t) → Settled m cs n t ⊎ Faults t
      by (inl h) = inl h
      by (inr p) =
          let first = first_fault_of m cs n t p in
          inr (first.0, first.1, no_want t first.0 first.1)

-- rows that have values are those of a column
abbrev RowsAre : (ℕ → Outcome) → ℕ → List Value → Type 0
RowsAre o n vs = (length vs ≡ n) × ((i : ℕ) → i < n → o i ≡ gives (row vs i))

column_rows : (o : ℕ → Outcome) (n : ℕ) → ((i : ℕ) → i < n → GivesValue (o i))
    → (vs : List Value) × RowsAre o n vs
column_rows o zero h = ([], (refl, below_none (λ i. o i ≡ gives (row [] i))))
column_rows o (suc n) h =
    let more = column_rows (λ i. o (suc i)) n later in
    (first.0 ∷ more.0, (ap suc more.1.0, each more.0 more.1.1))
  where
    later : (i : ℕ) → i < n → GivesValue (o (suc i))
    later i lt = h (suc i) (omega arith)

    first : (v : Value) × (o 0 ≡ gives v)
    first = value_in (o 0) (h 0 (omega arith))

    each : (vs : List Value) → ((i : ℕ) → i < n → o (suc i) ≡ gives (row vs i))
        → (i : ℕ) → i < suc n → o i ≡ gives (row (first.0 ∷ vs) i)
    each vs k zero lt = first.1
    each vs k (suc i) lt = k i (omega arith)

module _ {V O : Type 0} (m : Meaning V O) where
  -- a tree that matches, has a type and faults in no row is executed
  executed : (cs : List ColumnView) (n : ℕ) (t : Tree V O) → LeavesFit cs t
      → other_length n cs ≡ None → is_some (tree_type m t) ≡ true → Settled m cs n t
      → (c : ColumnView) × Executes m cs n t c
  executed cs n t fit lengths typed settled =
      let u = the_type (tree_type m t) typed in
      let vs = column_rows (eval m cs t) n settled in
      let c : ColumnView = record { dtype = u.0; rows = vs.0; constant = None; form = array } in (
        c,
        record {
          fit = fit;
          lengths = lengths;
          rows = record { dtype = u.1; count = vs.1.0; each = vs.1.1 };
        },
      )

  module _ (rs : Rules V O) (laws : AreSound m rs) (s : SessionView V O) where
    -- a step of the command, without running out of memory
    abbrev Makes : (Step V O → Type 0) → Type 0
    Makes P = (r : Step V O) × P r × (r ≢ refuses OutOfMemory)

    made : (r : Step V O) → r ≢ refuses OutOfMemory → Makes (λ q. q ≡ r)
    made r h = (r, refl, h)

    abbrev Memory : Step V O → Type 0
    Memory r = r ≢ refuses OutOfMemory

    refusal : (e : VortexError) → e ≢ OutOfMemory → Memory (refuses e)
    refusal e h k = h (cc)

    after_count : (f : ℕ → Step V O) → ((n : ℕ) → Memory (f n)) → Memory (after_rows s.row_count f)
    after_count f h = after m s Memory (λ e. cc) refusal s.row_count f (λ n k. h n)

    shows : (r : Option ℕ) (stack : List (Tree V O)) → AllShown stack → Makes (ShowsTop r stack s)
    shows None stack h = made is_malformed (λ e. cc)
    shows (Some n) [] h = made is_malformed (λ e. cc)
    shows (Some n) (t ∷ stack) h =
        let text = h.0.0 in
        let P = λ (o : Option (List ℕ)). IfSome o (λ b. shown_by text s ≡ shown_by b s) in
        (shown_by text s, subst P (sym h.0.1) refl, λ e. cc)

    runs_by : (n : ℕ) (t : Tree V O) (stack : List (Tree V O)) → LeavesFit s.columns t
        → other_length n s.columns ≡ None → is_some (tree_type m t) ≡ true
        → Settled m s.columns n t ⊎ Faults m s.columns n t
        → Makes (RunsTop m (Some n) (t ∷ stack) s)
    runs_by n t stack fit lengths typed (inl settled) =
        let c = executed s.columns n t fit lengths typed settled in
        let next : SessionView V O = record s { printed = s.printed ++ column_line c.0 } in
        (goes_on next, prints c.0 c.1 refl, λ e. cc)
    runs_by n t stack fit lengths typed (inr p) =
        (refuses p.0, refused p.0 (faulty fit lengths p.1) refl, refusal p.0 p.2)

    runs : (r : Option ℕ) (stack : List (Tree V O)) → Counted r s.columns → AllFit s.columns stack
        → AllHaveTypes m stack → Makes (RunsTop m r stack s)
    runs None stack counted fit typed = made is_malformed (λ e. cc)
    runs (Some n) [] counted fit typed = made is_malformed (λ e. cc)
    runs (Some n) (t ∷ stack) counted fit typed =
        runs_by n t stack fit.0 counted typed.0 (settled_or_faulty m s.columns n t)

    -- a run of rules within a limit, from a tree that matches the columns in each row
    module _ (limit n : ℕ) (t u : Tree V O) (run : RunsTo (expression_step m rs) limit t u)
        (fit : LeavesFit s.columns t) (lengths : other_length n s.columns ≡ None)
        (typed : is_some (tree_type m t) ≡ true) (rows : (i : ℕ) → i < n → HasRow s.columns i t)
        (stack : List (Tree V O)) where
      runs_after_by : Settled m s.columns n u ⊎ Faults m s.columns n u
          → Makes (RunsAfterTop m rs limit (Some n) (t ∷ stack) s)
      runs_after_by (inl settled) =
          let k = the_type (tree_type m t) typed in
          let asks = (rewritten m rs laws limit t u run typed).asks in
          let fits = leaves_still_fit s.columns t u asks fit in
          let c = executed s.columns n u fits lengths
          (rewritten_typed m rs laws limit t u run typed) settled in
          let after =
          rows_after m (expression_step m rs) laws.sound s.columns n limit t u k.0 k.1 run rows c.0
          c.1.rows in
          let next : SessionView V O = record s { printed = s.printed ++ column_line c.0 } in (
            goes_on next,
            prints_after c.0 (record { fit = fit; lengths = lengths; rows = after }) refl,
            λ e. cc,
          )
      runs_after_by (inr p) =
          let k = the_type (tree_type m t) typed in
          let after =
          fault_after m (expression_step m rs) laws.sound s.columns n limit t u k.0 k.1 run rows p.0
          p.1 in (
            refuses p.0,
            refused_after p.0 (faulty_after fit lengths after) refl,
            refusal p.0 p.2,
          )

    runs_after : (limit : ℕ) (r : Option ℕ) (stack : List (Tree V O)) → Counted r s.columns
        → AllFit s.columns stack → AllHaveTypes m stack → HaveRows r s.columns stack
        → Makes (RunsAfterTop m rs limit r stack s)
    runs_after limit None stack counted fit typed with_rows = made is_malformed (λ e. cc)
    runs_after limit (Some n) [] counted fit typed with_rows = made is_malformed (λ e. cc)
    runs_after limit (Some n) (t ∷ stack) counted fit typed with_rows =
        let u = some_run (expression_step m rs) t limit in
        runs_after_by limit n t u.0 u.1 fit.0 counted typed.0 with_rows.0 stack
        (settled_or_faulty m s.columns n u.0)

    optimizes : (r : Option ℕ) (stack : List (Tree V O)) → Makes (OptimizesTop m rs r stack s)
    optimizes None stack = made is_malformed (λ e. cc)
    optimizes (Some n) [] = made is_malformed (λ e. cc)
    optimizes (Some n) (t ∷ stack) =
        let u = some_run (expression_step m rs) t (weight_told m t) in (
          optimized m rs u.1.0 u.0 stack s,
          record { last = u.0; run = u.1; is = refl },
          λ e. cc,
        )

    steps : Fits m s → (k : Command) → Makes (StepsTo m rs k s)
    steps fits nothing = made (goes_on s) (λ e. cc)
    steps fits malformed = made is_malformed (λ e. cc)
    steps fits (rows n) =
        made _ (of_rows m s Memory (λ e. cc) refusal n s.row_count (λ k e. cc))
    steps fits (column name c) =
        made _ (after_count (with_column name c s)
        (λ n. of_column m s Memory (λ e. cc) refusal name c n (λ k e. cc)))
    steps fits (get name) =
        made _ (after_count (λ n. with_leaf name s (find_field name s.fields))
        (λ n. of_leaf m s Memory (λ e. cc) refusal name (find_field name s.fields) (λ p k e. cc)))
    steps fits (literal l) = made _ (after_count (λ n. with_literal l s) (λ n e. cc))
    steps fits (call words chosen) =
        made _ (after_count (λ n. with_call m s (shipped_called words chosen))
        (λ n. of_call m s Memory (λ e. cc) refusal (shipped_called words chosen) (λ f p k t e. cc)))
    steps fits show = shows s.row_count s.stack fits.shown
    steps fits optimize = optimizes s.row_count s.stack
    steps fits run = runs s.row_count s.stack fits.counted fits.fit fits.with_types
    steps fits (run_after limit) =
        runs_after limit s.row_count s.stack fits.counted fits.fit fits.with_types fits.with_rows

or_memory : (Q : VortexError → Type 0) (e : VortexError) → Q e → UnlessMemory Q e
or_memory Q OutOfMemory h = tt
or_memory Q e h = h

module _ {V O : Type 0} (m : Meaning V O) (rs : Rules V O) (laws : AreSound m rs)
    (lines : List (List ℕ)) where
  -- from a session that lines reach the script ends
  abbrev Ends : Type 0
  Ends = (n : ℕ) × (s : SessionView V O) × (ending : End)
      × Reaches m rs lines n s × EndsAt m rs lines n s ending × (ending ≢ Refused OutOfMemory)

  abbrev After : ℕ → SessionView V O → Type 0
  After n s = Reaches m rs lines n s → Ends

  by_step : (n : ℕ) (s : SessionView V O) → Reaches m rs lines n s → n < length lines
      → ((t : SessionView V O) → After (suc n) t)
      → (r : Step V O) → StepsTo m rs (command_at lines n) s r → r ≢ refuses OutOfMemory → Ends
  by_step n s reached lt later (goes_on t) step memory =
      later t (one_more n s t reached lt step)
  by_step n s reached lt later (refuses e) step memory =
      let Q =
      λ (d : VortexError). (n < length lines) × StepsTo m rs (command_at lines n) s (refuses d) in
      (n, s, Refused e, reached, or_memory Q e (lt, step), λ h. memory (ap refuses (told h)))
    where
      told : Refused e ≡ Refused OutOfMemory → e ≡ OutOfMemory
      told h = cc
  by_step n s reached lt later is_malformed step memory =
      (n, s, Malformed (n + 1), reached, (lt, step, refl), λ h. cc)

  ends_after : (left n : ℕ) (s : SessionView V O) → n + left ≡ length lines → After n s
  ends_after zero n s over reached =
      let over_here : n ≡ length lines = omega arith in
      (n, s, Done, reached, over_here, λ h. cc)
  ends_after (suc left) n s over reached =
      let lt : n < length lines = omega arith in
      let more : suc n + left ≡ length lines = omega arith in
      let fits = reached_fits m rs laws lines n s reached in
      let step = steps m rs laws s fits (command_at lines n) in
      by_step n s reached lt (λ t. ends_after left (suc n) t more) step.0 step.1 step.2

pub each_has_full_outcome : {V O : Type 0} (m : Meaning V O) (rs : Rules V O) → AreSound m rs
    → EachHasFullOutcome m rs
each_has_full_outcome m rs laws script =
    let lines = lines_of script in
    let all : 0 + length lines ≡ length lines = omega arith in
    let last = ends_after m rs laws lines (length lines) 0 fresh all begins in
    let outcome : IsOutcome m rs script last.1.printed last.2 =
    record {
      read = last.0;
      session = last.1;
      reached = last.3;
      ends = last.4;
      printed = refl;
    } in
    (last.1.printed, last.2, record { outcome = outcome; memory = last.5 })
