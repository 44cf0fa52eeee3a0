-- Each line keeps the trees of a session matching its columns.
use Rattle.std.proofs.Common.{◌≡◌, ◌==◌, ℕ, zero, suc, Bool, true, false, Option, Some, None, List}
use Rattle.std.proofs.Common.{[], ◌∷◌, ◌++◌, length, take, drop, reverse, refl, sym, ap, subst, ◌∙◌}
use Rattle.std.proofs.Common.{◌&&◌, if◌then◌else◌, ◌<◌, arith, All}
use Rattle.std.specs.Prelude.{nat_eq, nat_le}
use Rattle.std.proofs.lemmas.Grind.{reverse_onto}
use Rattle.std.specs.List.{slice_get}
use Rattle.std.specs.Str.{bytes_eq}
use Rattle.vortex_errors.specs.declared.error.VortexError.{VortexError}
use Rattle.vortex_columns.specs.ColumnView.{ColumnView, row, AreTyped}
use Rattle.vortex_types.specs.Typing.{HasType}
use Rattle.vortex_types.specs.LogicalTypes.{LogicalType, Fields, no_fields, field, with_field}
use Rattle.vortex_types.specs.LogicalTypes.{find_field, after_one}
use Rattle.vortex_interface.specs.Meaning.{Meaning}
use Rattle.vortex_interface.specs.Shipped.{Shipped, shipped_arity, shipped_called}
use Rattle.vortex_interface.specs.Shipped.{shipped_text}
use Rattle.vortex_interface.specs.Functions.{ours}
use Rattle.vortex_interface.specs.Trees.{Leaf, place, held, Tree, leaf, constant, call as call_tree}
use Rattle.vortex_interface.specs.Trees.{Trees, no_trees, tree, trees_of}
use Rattle.vortex_types.specs.ScalarView.{ScalarView}
use Rattle.std.specs.Option.{is_some, is_none, option_and_then}
use Rattle.std.specs.Prelude.{⊤}
use Rattle.std.proofs.lemmas.Bool.{and_parts}
use Rattle.std.specs.Prelude.{codes, slice_index_or}
use Rattle.vortex_interface.specs.Printing.{literal_text, function_text, tree_texts, with_text}
use Rattle.vortex_interface.specs.Eval.{IsFirstFault, tree_type}
use Rattle.vortex_interface.specs.Eval.{rows_or_none}
use Rattle.vortex_interface.specs.Rules.{Rules}
use Rattle.vortex_interface.specs.Rewrites.{LeafHasRow, HasRow, AllHaveRow}
use Rattle.vortex_interface.specs.Running.{IsFaultAfter}
use Rattle.vortex_interface.specs.Weights.{weight_told}
use Rattle.vortex_interface.specs.Execution.{LeafFits, LeavesFit, AllLeavesFit, other_length}
use Rattle.vortex_interface.proofs.ArithmeticErrs.{refuses_first}
use Rattle.vortex_interface.proofs.Leaves.{leaves_still_fit}
use Rattle.vortex_interface.proofs.RewrittenRows.{fitting_row}
use Rattle.vortex_rewriting.specs.Runs.{expression_step}
use Rattle.rowfn_lines.specs.Commands.{Command, nothing, malformed, rows, column, get, literal}
use Rattle.rowfn_lines.specs.Commands.{call, show, optimize, run, run_after}
use Rattle.rowfn_lines.proofs.SaidTyped.{IsTyped, said_typed}
use Rattle.rowfn_scripts.specs.Sessions.{SessionView, Step, goes_on, refuses, is_malformed}
use Rattle.rowfn_scripts.specs.Sessions.{least_count}
use Rattle.rowfn_scripts.specs.Sessions.{taken, after_rows, added, with_column}
use Rattle.rowfn_scripts.specs.Sessions.{pushed, with_leaf, with_literal, call_of}
use Rattle.rowfn_scripts.specs.Sessions.{with_call, ShowsTop, Runs, prints, refused}
use Rattle.rowfn_scripts.specs.Sessions.{RunsTop, OptimizesTop, RunsAfter, prints_after}
use Rattle.rowfn_scripts.specs.Sessions.{refused_after, RunsAfterTop, StepsTo}
use Rattle.rowfn_scripts.specs.Scripts.{Reaches, begins, one_more, command_at}
use Rattle.rowfn_scripts.specs.Fitting.{Counted, AreTypes, AllFit, AllHaveTypes, HasText, AllShown}
use Rattle.rowfn_scripts.specs.Fitting.{StackHasRows, HaveRows, Fits}
use Rattle.rowfn_scripts.proofs.AfterRules.{AreSound, rewritten, rewritten_typed, rewritten_shown}
use Rattle.rowfn_scripts.proofs.AfterRules.{refuses_fault}
use Rattle.rowfn_scripts.proofs.Shown.{shows_text}
use Rattle.rowfn_scripts.proofs.Steps.{of_rows, after, of_column, of_leaf, of_call}

get_before : (cs : List ColumnView) (c d : ColumnView) (i : ℕ) → slice_get cs i ≡ Some d
    → slice_get (cs ++ c ∷ []) i ≡ Some d
get_before [] c d i e = cc
get_before (b ∷ bs) c d zero e = e
get_before (b ∷ bs) c d (suc i) e = get_before bs c d i e

leaf_still_fits : (cs : List ColumnView) (c : ColumnView) (l : Leaf) → LeafFits cs l
    → LeafFits (cs ++ c ∷ []) l
leaf_still_fits cs c (place p name t) h = (h.0, get_before cs c h.0 p h.1, h.2)
leaf_still_fits cs c (held d) h = h

-- a leaf that matches has the same rows
leaf_row_still : (cs : List ColumnView) (c : ColumnView) (l : Leaf) (i : ℕ) → LeafFits cs l
    → LeafHasRow cs i l → LeafHasRow (cs ++ c ∷ []) i l
leaf_row_still cs c (place p name t) i fit h =
    subst (λ (o : Option ColumnView). HasType t (row (rows_or_none o) i))
    (fit.1 ∙ sym (get_before cs c fit.0 p fit.1)) h
leaf_row_still cs c (held d) i fit h = h

module _ {V O : Type 0} (cs : List ColumnView) (c : ColumnView) where
  mutual
    still_fits : (t : Tree V O) → LeavesFit cs t → LeavesFit (cs ++ c ∷ []) t
    still_fits (leaf l) h = leaf_still_fits cs c l h
    still_fits (constant s) h = h
    still_fits (call_tree f ts) h = all_still_fit ts h

    all_still_fit : (ts : Trees V O) → AllLeavesFit cs ts → AllLeavesFit (cs ++ c ∷ []) ts
    all_still_fit no_trees h = h
    all_still_fit (tree t ts) h = (still_fits t h.0, all_still_fit ts h.1)

  stack_still_fits : (ts : List (Tree V O)) → AllFit cs ts → AllFit (cs ++ c ∷ []) ts
  stack_still_fits [] h = h
  stack_still_fits (t ∷ ts) h = (still_fits t h.0, stack_still_fits ts h.1)

  mutual
    row_still : (t : Tree V O) (i : ℕ) → LeavesFit cs t → HasRow cs i t
        → HasRow (cs ++ c ∷ []) i t
    row_still (leaf l) i fit h = leaf_row_still cs c l i fit h
    row_still (constant s) i fit h = h
    row_still (call_tree f ts) i fit h = rows_still ts i fit h

    rows_still : (ts : Trees V O) (i : ℕ) → AllLeavesFit cs ts → AllHaveRow cs i ts
        → AllHaveRow (cs ++ c ∷ []) i ts
    rows_still no_trees i fit h = h
    rows_still (tree t ts) i fit h = (row_still t i fit.0 h.0, rows_still ts i fit.1 h.1)

  stack_rows_still : (n : ℕ) (ts : List (Tree V O)) → AllFit cs ts → StackHasRows cs n ts
      → StackHasRows (cs ++ c ∷ []) n ts
  stack_rows_still n [] fit h = h
  stack_rows_still n (t ∷ ts) fit h =
      ((λ i lt. row_still t i fit.0 (h.0 i lt)), stack_rows_still n ts fit.1 h.1)

-- one more typed column
one_more_typed : (cs : List ColumnView) (c : ColumnView)
    → All (λ (d : ColumnView). AreTyped d.dtype d.rows) cs → AreTyped c.dtype c.rows
    → All (λ (d : ColumnView). AreTyped d.dtype d.rows) (cs ++ c ∷ [])
one_more_typed [] c h k zero d lt = k
one_more_typed [] c h k (suc i) d lt = absurd (omega arith)
one_more_typed (b ∷ bs) c h k zero d lt = h 0 d (omega arith)
one_more_typed (b ∷ bs) c h k (suc i) d lt =
    one_more_typed bs c (λ j e l. h (suc j) e (omega arith)) k i d (omega arith)

other_by : (n : ℕ) (b : Bool) (cs : List ColumnView) (k : ℕ)
    → (if b then other_length n cs else Some k) ≡ None → (b ≡ true) × (other_length n cs ≡ None)
other_by n true cs k e = (refl, e)
other_by n false cs k e = cc

still_counted : (n : ℕ) (cs : List ColumnView) (c : ColumnView) → other_length n cs ≡ None
    → nat_eq (length c.rows) n ≡ true → other_length n (cs ++ c ∷ []) ≡ None
still_counted n [] c e h = λ i. if h i then None else Some (length c.rows)
still_counted n (b ∷ bs) c e h =
    let p = other_by n (nat_eq (length b.rows) n) bs (length b.rows) e in
    (λ i. if p.0 i then other_length n (bs ++ c ∷ []) else Some (length b.rows))
    ∙ still_counted n bs c p.1 h

-- the column at a field's index has the field's type
abbrev Placed : List ColumnView → ℕ × LogicalType → Type 0
Placed cs p = (d : ColumnView) × (slice_get cs p.0 ≡ Some d) × (d.dtype ≡ p.1)

found_by : (b : Bool) (t : LogicalType) (o : Option (ℕ × LogicalType)) (p : ℕ × LogicalType)
    → (if b then Some (0, t) else after_one o) ≡ Some p
    → (c : ColumnView) (cs : List ColumnView) → c.dtype ≡ t
    → ((q : ℕ × LogicalType) → o ≡ Some q → Placed cs q) → Placed (c ∷ cs) p
found_by true t o p e c cs is rest =
    let same : (0, t) ≡ p = cc in
    subst (Placed (c ∷ cs)) same (c, refl, is)
found_by false t None p e c cs is rest = cc
found_by false t (Some q) p e c cs is rest =
    let h = rest q refl in
    let same : (suc q.0, q.1) ≡ p = cc in
    subst (Placed (c ∷ cs)) same (h.0, h.1, h.2)

found_fits : (name : List ℕ) (fs : Fields) (cs : List ColumnView) (p : ℕ × LogicalType)
    → AreTypes fs cs → find_field name fs ≡ Some p → Placed cs p
found_fits name no_fields cs p h e = cc
found_fits name (field n t fs) [] p h e = absurd h
found_fits name (field n t fs) (c ∷ cs) p h e =
    let rest : (q : ℕ × LogicalType) → find_field name fs ≡ Some q → Placed cs q =
    λ q k. found_fits name fs cs q h.1 k in
    found_by (bytes_eq n name) t (find_field name fs) p e c cs h.0 rest

still_typed : (fs : Fields) (cs : List ColumnView) (name : List ℕ) (c : ColumnView)
    → AreTypes fs cs → AreTypes (with_field fs name c.dtype) (cs ++ c ∷ [])
still_typed no_fields [] name c h = (refl, tt)
still_typed no_fields (d ∷ cs) name c h = absurd h
still_typed (field n t fs) [] name c h = absurd h
still_typed (field n t fs) (d ∷ cs) name c h = (h.0, still_typed fs cs name c h.1)

module _ {V O : Type 0} where
  all_fit : (cs : List ColumnView) (ts : List (Tree V O)) → AllFit cs ts
      → AllLeavesFit cs (trees_of ts)
  all_fit cs [] h = tt
  all_fit cs (t ∷ ts) h = (h.0, all_fit cs ts h.1)

  all_rows : (cs : List ColumnView) (n : ℕ) (ts : List (Tree V O)) → StackHasRows cs n ts
      → (i : ℕ) → i < n → AllHaveRow cs i (trees_of ts)
  all_rows cs n [] h i lt = tt
  all_rows cs n (t ∷ ts) h i lt = (h.0 i lt, all_rows cs n ts h.1 i lt)

  -- a property of each tree of a stack holds for the popped ones, and for the rest
  module _ (P : List (Tree V O) → Type 0) (none : P [])
      (more : (t : Tree V O) (ts : List (Tree V O)) → P (t ∷ []) → P ts → P (t ∷ ts))
      (first : (t : Tree V O) (ts : List (Tree V O)) → P (t ∷ ts) → P (t ∷ []) × P ts) where
    of_both : (ts us : List (Tree V O)) → P ts → P us → P (ts ++ us)
    of_both [] us h k = k
    of_both (t ∷ ts) us h k = more t (ts ++ us) (first t ts h).0 (of_both ts us (first t ts h).1 k)

    of_reverse : (ts : List (Tree V O)) → P ts → P (reverse ts)
    of_reverse [] h = none
    of_reverse (t ∷ ts) h =
        subst P (sym (reverse_onto ts t []))
        (of_both (reverse ts) (t ∷ []) (of_reverse ts (first t ts h).1) (first t ts h).0)

    of_parts : (n : ℕ) (ts : List (Tree V O)) → P ts → P (take n ts) × P (drop n ts)
    of_parts zero ts h = (none, h)
    of_parts (suc n) [] h = (none, none)
    of_parts (suc n) (t ∷ ts) h =
        let rest = of_parts n ts (first t ts h).1 in
        (more t (take n ts) (first t ts h).0 rest.0, rest.1)

    taken_by : (b : Bool) (n : ℕ) (stack : List (Tree V O)) (p : List (Tree V O) × List (Tree V O))
        → (if b then Some (reverse (take n stack), drop n stack) else None) ≡ Some p
        → P stack → P p.0 × P p.1
    taken_by false n stack p e h = cc
    taken_by true n stack p e h =
        let parts = of_parts n stack h in
        let same : (reverse (take n stack), drop n stack) ≡ p = cc in
        subst (λ (q : List (Tree V O) × List (Tree V O)). P q.0 × P q.1) same
        (of_reverse (take n stack) parts.0, parts.1)

    of_taken : (n : ℕ) (stack : List (Tree V O)) (p : List (Tree V O) × List (Tree V O))
        → taken n stack ≡ Some p → P stack → P p.0 × P p.1
    of_taken n stack p e h = taken_by (nat_le n (length stack)) n stack p e h

texts_shown : {V O : Type 0} (ts : List (Tree V O)) → AllShown ts
    → (texts : List (List ℕ)) × (tree_texts (trees_of ts) ≡ Some texts)
texts_shown [] h = ([], refl)
texts_shown (u ∷ us) h =
    let more = texts_shown us h.1 in (h.0.0 ∷ more.0, λ i. with_text (h.0.1 i) (more.1 i))

module _ {V O : Type 0} (m : Meaning V O) (s : SessionView V O) (fits : Fits m s) where
  call_shown : (f : Shipped) (ts : List (Tree V O)) → AllShown ts → HasText (call_of m f ts)
  call_shown f ts h =
      let texts = texts_shown ts h in (
        shipped_text f texts.0,
        ap (option_and_then (function_text {V = V} {O = O} (ours f))) texts.1,
      )

  -- before the row count is given
  begun : (n : ℕ) → s.row_count ≡ None → Fits m (record s { row_count = Some n })
  begun n known =
      let none : s.columns ≡ [] =
      subst (λ (r : Option ℕ). Counted r s.columns) known fits.counted in
      let empty : s.stack ≡ [] =
      subst (λ (r : Option ℕ). HaveRows r s.columns s.stack) known fits.with_rows in
      record {
        counted = ap (λ (cs : List ColumnView). other_length n cs) none;
        typed = fits.typed;
        typed_rows = fits.typed_rows;
        with_rows =
            subst (λ (ts : List (Tree V O)). StackHasRows s.columns n ts) (sym empty) tt;
        fit = fits.fit;
        with_types = fits.with_types;
        shown = fits.shown;
      }

  -- and after
  module _ (n : ℕ) (known : s.row_count ≡ Some n) where
    counted_at : other_length n s.columns ≡ None
    counted_at = subst (λ (r : Option ℕ). Counted r s.columns) known fits.counted

    rows_at : StackHasRows s.columns n s.stack
    rows_at = subst (λ (r : Option ℕ). HaveRows r s.columns s.stack) known fits.with_rows

    as_rows : (cs : List ColumnView) (ts : List (Tree V O)) → StackHasRows cs n ts
        → HaveRows s.row_count cs ts
    as_rows cs ts h = subst (λ (r : Option ℕ). HaveRows r cs ts) (sym known) h

    with_column_fits : (name : List ℕ) (c : ColumnView) → AreTyped c.dtype c.rows
        → ((length c.rows == n) && is_none (find_field name s.fields)) ≡ true
        → Fits m (added name c s)
    with_column_fits name c said h =
        let long = (and_parts (length c.rows == n) (is_none (find_field name s.fields)) h).0 in
        let still = still_counted n s.columns c counted_at long in
        record {
          counted = subst (λ (r : Option ℕ). Counted r (s.columns ++ c ∷ [])) (sym known) still;
          typed = still_typed s.fields s.columns name c fits.typed;
          typed_rows = one_more_typed s.columns c fits.typed_rows said;
          with_rows =
              as_rows (s.columns ++ c ∷ []) s.stack
              (stack_rows_still s.columns c n s.stack fits.fit rows_at);
          fit = stack_still_fits s.columns c s.stack fits.fit;
          with_types = fits.with_types;
          shown = fits.shown;
        }

    -- other trees, and what was printed
    with_stack : (stack : List (Tree V O)) (printed : List ℕ)
        → StackHasRows s.columns n stack → AllFit s.columns stack → AllHaveTypes m stack
        → AllShown stack
        → Fits m (record s { stack = stack; printed = printed })
    with_stack stack printed typed fit types shown = record {
      counted = fits.counted;
      typed = fits.typed;
      typed_rows = fits.typed_rows;
      with_rows = as_rows s.columns stack typed;
      fit = fit;
      with_types = types;
      shown = shown;
    }

    pushed_fits : (t : Tree V O) → ((i : ℕ) → i < n → HasRow s.columns i t) → LeavesFit s.columns t
        → is_some (tree_type m t) ≡ true → HasText t
        → Fits m (pushed t s.stack s)
    pushed_fits t typed fit type shown =
        with_stack (t ∷ s.stack) s.printed (typed, rows_at) (fit, fits.fit)
        (type, fits.with_types) (shown, fits.shown)

    leaf_fits : (name : List ℕ) (p : ℕ × LogicalType) → find_field name s.fields ≡ Some p
        → Fits m (pushed (leaf (place p.0 name p.1)) s.stack s)
    leaf_fits name p h =
        let fit = found_fits name s.fields s.columns p fits.typed h in
        let new : Tree V O = leaf (place p.0 name p.1) in
        pushed_fits new
        (λ i lt. fitting_row s.columns n counted_at fits.typed_rows new i lt fit tt) fit refl
        (codes "$." ++ name, refl)

    literal_fits : (l : ScalarView) → HasType l.dtype l.value
        → Fits m (pushed (constant l) s.stack s)
    literal_fits l said =
        pushed_fits (constant l) (λ i lt. said) tt refl (literal_text l.dtype l.value, refl)

    call_fits : (f : Shipped) (p : List (Tree V O) × List (Tree V O))
        → taken (least_count (shipped_arity f)) s.stack ≡ Some p
        → is_some (tree_type m (call_of m f p.0)) ≡ true
        → Fits m (pushed (call_of m f p.0) p.1 s)
    call_fits f p h type =
        let all =
        of_taken
        (λ ts. StackHasRows s.columns n ts × AllFit s.columns ts × AllHaveTypes m ts × AllShown ts)
        (tt, tt, tt, tt)
        (λ u us a b. ((a.0.0, b.0), (a.1.0, b.1), (a.2.0, b.2), (a.3.0, b.3)))
        (λ u us a.
        (((a.0.0, tt), (a.1.0, tt), (a.2.0, tt), (a.3.0, tt)), (a.0.1, a.1.1, a.2.1, a.3.1)))
        (least_count (shipped_arity f)) s.stack p h
        (rows_at, fits.fit, fits.with_types, fits.shown) in
        with_stack (call_of m f p.0 ∷ p.1) s.printed
        (all_rows s.columns n p.0 all.0.0, all.1.0) (all_fit s.columns p.0 all.0.1, all.1.1)
        (type, all.1.2) (call_shown f p.0 all.0.3, all.1.3)

module _ {V O : Type 0} (m : Meaning V O) (rs : Rules V O) (laws : AreSound m rs)
    (s : SessionView V O) (fits : Fits m s) where
  abbrev FitsAfter : Step V O → Type 0
  FitsAfter (goes_on t) = Fits m t
  FitsAfter (refuses e) = ⊤
  FitsAfter is_malformed = ⊤

  as_step : (r a : Step V O) → r ≡ a → FitsAfter a → FitsAfter r
  as_step r a e h = subst FitsAfter (sym e) h

  after_count : (f : ℕ → Step V O) → ((n : ℕ) → s.row_count ≡ Some n → FitsAfter (f n))
      → FitsAfter (after_rows s.row_count f)
  after_count f h = after m s FitsAfter tt (λ e k. tt) s.row_count f h

  fits_still : {printed : List ℕ} → Fits m (record s { printed = printed })
  fits_still = record {
    counted = fits.counted;
    typed = fits.typed;
    typed_rows = fits.typed_rows;
    with_rows = fits.with_rows;
    fit = fits.fit;
    with_types = fits.with_types;
    shown = fits.shown;
  }

  after_run : (r : Option ℕ) (stack : List (Tree V O)) (a : Step V O) → RunsTop m r stack s a
      → FitsAfter a
  after_run None stack a e = as_step a is_malformed e tt
  after_run (Some n) [] a e = as_step a is_malformed e tt
  after_run (Some n) (u ∷ stack) a (prints c h e) = as_step a _ e fits_still
  after_run (Some n) (u ∷ stack) a (refused d h e) = as_step a (refuses d) e tt

  after_run_after : (limit : ℕ) (r : Option ℕ) (stack : List (Tree V O)) (a : Step V O)
      → RunsAfterTop m rs limit r stack s a → FitsAfter a
  after_run_after limit None stack a e = as_step a is_malformed e tt
  after_run_after limit (Some n) [] a e = as_step a is_malformed e tt
  after_run_after limit (Some n) (u ∷ stack) a (prints_after c h e) = as_step a _ e fits_still
  after_run_after limit (Some n) (u ∷ stack) a (refused_after d h e) =
      as_step a (refuses d) e tt

  after_optimize : (r : Option ℕ) (stack : List (Tree V O)) (a : Step V O) → s.row_count ≡ r
      → s.stack ≡ stack → OptimizesTop m rs r stack s a → FitsAfter a
  after_optimize None stack a known top e = as_step a is_malformed e tt
  after_optimize (Some n) [] a known top e = as_step a is_malformed e tt
  after_optimize (Some n) (u ∷ stack) a known top o =
      let all =
      subst
      (λ (ts : List (Tree V O)).
      StackHasRows s.columns n ts × AllFit s.columns ts × AllHaveTypes m ts × AllShown ts)
      top (rows_at m s fits n known, fits.fit, fits.with_types, fits.shown) in
      let limit = weight_told m u in
      let asks = (rewritten m rs laws limit u o.last o.run all.2.0).asks in
      as_step a _ o.is
      (with_stack m s fits n known (o.last ∷ stack) _
      ((λ i lt. asks.rows s.columns i (all.0.0 i lt)), all.0.1)
      (leaves_still_fit s.columns u o.last asks all.1.0, all.1.1)
      (rewritten_typed m rs laws limit u o.last o.run all.2.0, all.2.1)
      (rewritten_shown m rs laws limit u o.last o.run all.2.0 all.3.0, all.3.1))

  after_show : (r : Option ℕ) (stack : List (Tree V O)) (a : Step V O) → AllShown stack
      → ShowsTop r stack s a → FitsAfter a
  after_show None stack a h e = as_step a is_malformed e tt
  after_show (Some n) [] a h e = as_step a is_malformed e tt
  after_show (Some n) (u ∷ stack) a h e = as_step a _ (shows_text s u a h.0 e) fits_still

  after_line : (k : Command) → IsTyped k → (r : Step V O) → StepsTo m rs k s r → FitsAfter r
  after_line nothing said r e = as_step r _ e fits
  after_line malformed said r e = as_step r _ e tt
  after_line (rows n) said r e =
      as_step r _ e (of_rows m s FitsAfter tt (λ d k. tt) n s.row_count (begun m s fits n))
  after_line (column name c) said r e =
      as_step r _ e (after_count (with_column name c s)
      (λ n known. of_column m s FitsAfter tt (λ d k. tt) name c n
      (with_column_fits m s fits n known name c said)))
  after_line (get name) said r e =
      as_step r _ e (after_count (λ n. with_leaf name s (find_field name s.fields))
      (λ n known. of_leaf m s FitsAfter tt (λ d k. tt) name (find_field name s.fields)
      (leaf_fits m s fits n known name)))
  after_line (literal l) said r e =
      as_step r _ e (after_count (λ n. with_literal l s)
      (λ n known. literal_fits m s fits n known l said))
  after_line (call words chosen) said r e =
      as_step r _ e (after_count (λ n. with_call m s (shipped_called words chosen))
      (λ n known. of_call m s FitsAfter tt (λ d k. tt) (shipped_called words chosen)
      (call_fits m s fits n known)))
  after_line show said r e = after_show s.row_count s.stack r fits.shown e
  after_line optimize said r e = after_optimize s.row_count s.stack r refl refl e
  after_line run said r e = after_run s.row_count s.stack r e
  after_line (run_after limit) said r e = after_run_after limit s.row_count s.stack r e

none_typed : All (λ (d : ColumnView). AreTyped d.dtype d.rows) []
none_typed i d lt = absurd (omega arith)

module _ {V O : Type 0} (m : Meaning V O) where
  pub run_faults : (s : SessionView V O) (n : ℕ) (t : Tree V O) (stack : List (Tree V O))
      (e : VortexError)
      → other_length n s.columns ≡ None → LeavesFit s.columns t → Runs m n t s (refuses e)
      → IsFirstFault m s.columns n t e
  run_faults s n t stack e counted fit (prints c h is) = cc
  run_faults s n t stack e counted fit (refused d r is) =
      let same : d ≡ e = cc in
      subst (λ (x : VortexError). IsFirstFault m s.columns n t x) same
      (refuses_first m s.columns n t d fit counted r)

  module _ (rs : Rules V O) where
    pub run_after_faults : (s : SessionView V O) (limit n : ℕ) (t : Tree V O) (e : VortexError)
        → other_length n s.columns ≡ None → LeavesFit s.columns t
        → RunsAfter m rs limit n t s (refuses e)
        → IsFaultAfter m s.columns n (expression_step m rs) limit t e
    run_after_faults s limit n t e counted fit (prints_after c h is) = cc
    run_after_faults s limit n t e counted fit (refused_after d r is) =
        let same : d ≡ e = cc in
        subst (λ (x : VortexError). IsFaultAfter m s.columns n (expression_step m rs) limit t x)
        same (refuses_fault m rs s.columns n limit t d counted fit r)

    module _ (laws : AreSound m rs) where
      pub reached_fits : (lines : List (List ℕ)) (n : ℕ) (s : SessionView V O)
          → Reaches m rs lines n s → Fits m s
      reached_fits lines k u begins = record {
        counted = refl;
        typed = tt;
        typed_rows = none_typed;
        with_rows = refl;
        fit = tt;
        with_types = tt;
        shown = tt;
      }
      reached_fits lines k u (one_more n s t reached lt e) =
          after_line m rs laws s (reached_fits lines n s reached) (command_at lines n)
          (said_typed (slice_index_or lines n [])) (goes_on t) e

      module _ (lines : List (List ℕ)) (read n : ℕ) (s : SessionView V O) (t : Tree V O)
          (stack : List (Tree V O)) (reached : Reaches m rs lines read s)
          (known : s.row_count ≡ Some n) (top : s.stack ≡ t ∷ stack) where
        counted : other_length n s.columns ≡ None
        counted = counted_at m s (reached_fits lines read s reached) n known

        fit : LeavesFit s.columns t
        fit =
            let all : AllFit s.columns (t ∷ stack) =
            subst (λ (ts : List (Tree V O)). AllFit s.columns ts) top
            (reached_fits lines read s reached).fit in
            all.0

        pub refuses_faults_alone : (e : VortexError) → StepsTo m rs run s (refuses e)
            → IsFirstFault m s.columns n t e
        refuses_faults_alone e step =
            let runs : RunsTop m (Some n) (t ∷ stack) s (refuses e) =
            subst (λ (r : Option ℕ). RunsTop m r (t ∷ stack) s (refuses e)) known
            (subst (λ (ts : List (Tree V O)). RunsTop m s.row_count ts s (refuses e)) top step) in
            run_faults s n t stack e counted fit runs

        pub refuses_faults_after_alone : (limit : ℕ) (e : VortexError)
            → StepsTo m rs (run_after limit) s (refuses e)
            → IsFaultAfter m s.columns n (expression_step m rs) limit t e
        refuses_faults_after_alone limit e step =
            let runs : RunsAfterTop m rs limit (Some n) (t ∷ stack) s (refuses e) =
            subst (λ (r : Option ℕ). RunsAfterTop m rs limit r (t ∷ stack) s (refuses e)) known
            (subst
            (λ (ts : List (Tree V O)). RunsAfterTop m rs limit s.row_count ts s (refuses e))
            top step) in
            run_after_faults s limit n t e counted fit runs
