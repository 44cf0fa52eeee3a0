-- The step of each kind of line.
use Rattle.std.proofs.Common.{◌≡◌, ◌==◌, ℕ, suc, ◌+◌, ◌-◌, ◌<◌, Bool, true, false, Option, Some}
use Rattle.std.proofs.Common.{None, Result, List, [], ◌∷◌, ◌++◌, length, take, drop, get_or}
use Rattle.std.proofs.Common.{reverse, refl, sym, ap, subst, ◌∙◌, arith, ◌&&◌, if◌then◌else◌, map}
use Rattle.std.proofs.Common.{◌≤◌, ◌⊎◌, inl, inr, ◌↔◌, IsTrue}
use Rattle.std.specs.Prelude.{IfSome, nat_le, nat_lt, not, String, string_bytes}
use Rattle.std.specs.declared.alloc.Global.{Global}
use Rattle.std.specs.Cmp.{unsigned_Decides}
use Rattle.std.specs.Option.{is_some, is_none, option_and_then, option_map}
use Rattle.std.specs.Result.{IsErrAnd}
use Rattle.std.proofs.lemmas.Result.{err_from_is_err_and}
use Rattle.std.proofs.Math.Seq.{take-suc, take-append_seam, drop-append_seam}
use Rattle.std.proofs.lemmas.Bool.{le-leb, lt-leb, lt-ltb}
use Rattle.std.proofs.lemmas.List.{reverse-append, reverse-reverse, take-append-drop, take_all}
use Rattle.std.proofs.lemmas.List.{length-drop, length-append, length-reverse, map-append}
use Rattle.std.proofs.lemmas.List.{take-map, length-map}
use Rattle.vortex_errors.specs.declared.error.MismatchPlace.{MismatchPlace}
use Rattle.vortex_errors.specs.declared.error.VortexError.{VortexError}
use Rattle.vortex_errors.specs.declared.error.VortexError.TheVariants.{ScopeMismatch}
use Rattle.vortex_errors.specs.Answers.{Answers, UnlessMemory}
use Rattle.vortex_errors.proofs.Answering.{UnlessMemory-weaker}
use Rattle.vortex_types.specs.LogicalTypes.{LogicalType, Fields, with_field, find_field}
use Rattle.vortex_columns.specs.ColumnView.{ColumnView}
use Rattle.vortex_interface.specs.Meaning.{Meaning, fits}
use Rattle.vortex_interface.specs.Rules.{Rules}
use Rattle.vortex_interface.specs.Weights.{weight_told}
use Rattle.vortex_interface.specs.Driver.{step, Runs}
use Rattle.vortex_interface.specs.Running.{ExecutesAfter, RefusesAfter}
use Rattle.vortex_interface.proofs.RuleAnswers.{not_not}
use Rattle.vortex_rewriting.specs.Runs.{expression_step}
use Rattle.vortex_interface.specs.Shipped.{Shipped, row_function, shipped_arity, shipped_called}
use Rattle.vortex_interface.specs.Shipped.{shipped_place}
use Rattle.vortex_interface.specs.Functions.{Function, ours, function_arity, function_type, call_type}
use Rattle.vortex_interface.specs.Functions.{IsMismatchAt}
use Rattle.vortex_types.specs.ScalarView.{ScalarView}
use Rattle.vortex_interface.specs.Trees.{Tree, call, trees_of, leaf, place, constant}
use Rattle.vortex_interface.specs.Eval.{tree_type, tree_types, types_or_none}
use Rattle.vortex_interface.specs.Execution.{Executes, RefusesExecution}
use Rattle.vortex_interface.specs.Printing.{tree_text}
use Rattle.vortex_functions.specs.Binding.{IsCall, RefusesCall, count, types}
use Rattle.vortex_functions.proofs.Bound.{type_count}
use Rattle.rowfn_scripts.specs.Sessions.{column_line}
use Rattle.rowfn_scripts.specs.declared.stop.Stop.{Stop}
use Rattle.rowfn_scripts.specs.declared.stop.Stop.TheVariants.{Refused}
use Rattle.rowfn_scripts.specs.Sessions.{SessionView, Step, goes_on, refuses, is_malformed}
use Rattle.rowfn_scripts.specs.Sessions.{least_count, taken, after_rows, added, with_column}
use Rattle.rowfn_scripts.specs.Sessions.{pushed, with_leaf, with_literal, call_of, refused_at}
use Rattle.rowfn_scripts.specs.Sessions.{with_taken, with_call}
use Rattle.rowfn_scripts.specs.Sessions.{shown_by, ShowsTop, prints, refused, RunsTop, steps_text}
use Rattle.rowfn_scripts.specs.Sessions.{Optimizes, OptimizesTop, prints_after, refused_after}
use Rattle.rowfn_scripts.specs.Sessions.{RunsAfterTop}
use Rattle.rowfn_scripts.specs.Stepping.{MakesStep, after_text}

module _ {V O : Type 0} where
  pub row_count_of : {s t : SessionView V O} → s ≡ t → s.row_count ≡ t.row_count
  row_count_of e = ap (λ (s : SessionView V O). s.row_count) e

  pub fields_of : {s t : SessionView V O} → s ≡ t → s.fields ≡ t.fields
  fields_of e = ap (λ (s : SessionView V O). s.fields) e

  pub columns_of : {s t : SessionView V O} → s ≡ t → s.columns ≡ t.columns
  columns_of e = ap (λ (s : SessionView V O). s.columns) e

  pub stack_of : {s t : SessionView V O} → s ≡ t → s.stack ≡ t.stack
  stack_of e = ap (λ (s : SessionView V O). s.stack) e

  pub printed_of : {s t : SessionView V O} → s ≡ t → s.printed ≡ t.printed
  printed_of e = ap (λ (s : SessionView V O). s.printed) e

  -- a test of whether the row count is given
  pub unsaid : {s t : SessionView V O} {a b : Bool} → s ≡ t → is_some s.row_count ≡ not a → a ≡ b
      → is_none t.row_count ≡ b
  unsaid {a = a} e h k = ap is_none (sym (row_count_of e)) ∙ ap not h ∙ not_not a ∙ k

  -- the same column added to the same session
  pub same_added : (v s : SessionView V O) (name : List ℕ) (c : ColumnView) (fs : Fields)
      (cs : List ColumnView) → v ≡ s → fs ≡ with_field v.fields name c.dtype
      → cs ≡ v.columns ++ c ∷ []
      → goes_on (record v { fields = fs; columns = cs }) ≡ goes_on (added name c s)
  same_added v s name c fs cs e a b =
      (λ i. goes_on (record v { fields = a i; columns = b i }))
      ∙ ap (λ (u : SessionView V O). goes_on (added name c u)) e

  -- a tree is pushed
  pub tree_pushed : (v s : SessionView V O) (t : Tree V O) (items after : List (Tree V O)) → v ≡ s
      → v.stack ≡ reverse items → after ≡ items ++ t ∷ []
      → record v { stack = reverse after } ≡ pushed t s.stack s
  tree_pushed v s t items after e st made =
      let stack : reverse after ≡ t ∷ v.stack =
      ap reverse made ∙ reverse-append items (t ∷ [])
      ∙ ap (λ (xs : List (Tree V O)). t ∷ xs) (sym st) in
      (λ i. record v { stack = stack i })
      ∙ ap (λ (u : SessionView V O). pushed t u.stack u) e

  pub same_pushed : (r v s : SessionView V O) (t u : Tree V O) (kept below : List (Tree V O))
      → v ≡ s → t ≡ u → kept ≡ below → r ≡ pushed t kept v
      → goes_on r ≡ goes_on (pushed u below s)
  same_pushed r v s t u kept below e f k h =
      ap goes_on h ∙ (λ i. goes_on (pushed (f i) (k i) (e i)))

  -- one more tree, and a text that was printed
  pub same_optimized : (v s : SessionView V O) (t : Tree V O) (kept after : List (Tree V O))
      (printed text : List ℕ) → v ≡ s → after ≡ kept ++ t ∷ [] → printed ≡ v.printed ++ text
      → goes_on (record v { stack = reverse after; printed = printed })
      ≡ goes_on (record s { stack = t ∷ reverse kept; printed = s.printed ++ text })
  same_optimized v s t kept after printed text e a b =
      ap (λ (st : List (Tree V O)). goes_on (record v { stack = reverse st; printed = printed })) a
      ∙ ap (λ (st : List (Tree V O)). goes_on (record v { stack = st; printed = printed }))
      (reverse-append kept (t ∷ []))
      ∙ ap (λ (x : List ℕ). goes_on (record v { stack = t ∷ reverse kept; printed = x })) b
      ∙ ap
      (λ (u : SessionView V O).
      goes_on (record u { stack = t ∷ reverse kept; printed = u.printed ++ text }))
      e

  -- the tree that was popped was the top
  pub popped : (items kept : List (Tree V O)) (t : Tree V O) → items ≡ kept ++ t ∷ []
      → reverse items ≡ t ∷ reverse kept
  popped items kept t e = ap reverse e ∙ reverse-append kept (t ∷ [])

  -- before the row count is given
  pub before_rows : (r : Option ℕ) (f : ℕ → Step V O) → is_none r ≡ true
      → is_malformed ≡ after_rows r f
  before_rows None f h = refl
  before_rows (Some n) f h = cc

  after_some : (r : Option ℕ) (x : Step V O) → is_none r ≡ false → x ≡ after_rows r (λ n. x)
  after_some None x h = cc
  after_some (Some n) x h = refl

  module _ (name : List ℕ) (c : ColumnView) (s : SessionView V O) (n : ℕ)
      (counted : s.row_count ≡ Some n) where
    abbrev Column : Step V O
    Column = after_rows s.row_count (with_column name c s)

    abbrev is_new : Bool
    is_new = is_none (find_field name s.fields)

    by_tests : (a b : Bool) → (length c.rows == n) ≡ a → is_new ≡ b
        → (if a && b then goes_on (added name c s) else is_malformed) ≡ Column
    by_tests a b e f =
        sym (ap (λ (r : Option ℕ). after_rows r (with_column name c s)) counted
        ∙ (λ i. if e i && f i then goes_on (added name c s) else is_malformed))

    known_name : (a : Bool) → (length c.rows == n) ≡ a → is_new ≡ false → is_malformed ≡ Column
    known_name true e f = by_tests true false e f
    known_name false e f = by_tests false false e f

    pub name_twice : is_new ≡ false → is_malformed ≡ Column
    name_twice f = known_name _ refl f

    pub column_added : (length c.rows == n) ≡ true → is_new ≡ true
        → goes_on (added name c s) ≡ Column
    column_added e f = by_tests true true e f

  pub leaf_pushed : (name : List ℕ) (s : SessionView V O) (scope : Fields) (p : ℕ × LogicalType)
      → is_none s.row_count ≡ false → find_field name scope ≡ Some p
      → goes_on (pushed (leaf (place p.0 name p.1)) s.stack s)
      ≡ after_rows s.row_count (λ n. with_leaf name s (find_field name scope))
  leaf_pushed name s scope p h e =
      ap (with_leaf name s) (sym e) ∙ after_some s.row_count _ h

  pub literal_pushed : (l : ScalarView) (s : SessionView V O) → is_none s.row_count ≡ false
      → goes_on (pushed (constant l) s.stack s) ≡ after_rows s.row_count (λ n. with_literal l s)
  literal_pushed l s h = after_some s.row_count _ h

  pub leaf_refused : (name : List ℕ) (s : SessionView V O) (scope : Fields)
      → is_none s.row_count ≡ false → find_field name scope ≡ None
      → refuses ScopeMismatch
      ≡ after_rows s.row_count (λ n. with_leaf name s (find_field name scope))
  leaf_refused name s scope h e = ap (with_leaf name s) (sym e) ∙ after_some s.row_count _ h

  taken_seam : (front rest : List (Tree V O)) (n : ℕ) → length front ≡ n
      → taken n (front ++ rest) ≡ Some (reverse front, rest)
  taken_seam front rest n e =
      let all = front ++ rest in
      let enough : nat_le n (length all) ≡ true =
      le-leb n (length all) (omega (arith, e, length-append front rest)) in
      (λ i. if enough i then Some (reverse (take n all), drop n all) else None)
      ∙ (λ i. Some (reverse (take (sym e i) all), drop (sym e i) all))
      ∙ (λ i. Some (reverse (take-append_seam front rest i), drop-append_seam front rest i))

  -- the last trees of a list are popped from a stack whose last is its end
  last_by : (xs ys : List (Tree V O))
      → taken (length ys) (reverse (xs ++ ys)) ≡ Some (ys, reverse xs)
  last_by xs ys =
      ap (taken (length ys)) (reverse-append xs ys)
      ∙ taken_seam (reverse ys) (reverse xs) (length ys) (length-reverse ys)
      ∙ ap (λ (zs : List (Tree V O)). Some (zs, reverse xs)) (reverse-reverse ys)

  last_taken : (n : ℕ) (xs : List (Tree V O)) (k : ℕ) → k + n ≡ length xs
      → taken n (reverse xs) ≡ Some (drop k xs, reverse (take k xs))
  last_taken n xs k e =
      let counted : n ≡ length (drop k xs) = omega (arith, length-drop k xs) in
      ap (λ (ys : List (Tree V O)). taken n (reverse ys)) (sym (take-append-drop k xs))
      ∙ ap (λ (j : ℕ). taken j (reverse (take k xs ++ drop k xs))) counted
      ∙ last_by (take k xs) (drop k xs)

  too_few : (n : ℕ) (xs : List (Tree V O)) → length xs < n → taken n (reverse xs) ≡ None
  too_few n xs h =
      let all = reverse xs in
      let few : nat_le n (length all) ≡ false =
      lt-leb n (length all) (omega (arith, length-reverse xs)) in
      (λ i. if few i then Some (reverse (take n all), drop n all) else None)

  -- the last tree is the top
  pub last_is_top : (xs : List (Tree V O)) (t : Tree V O) → 0 < length xs
      → t ≡ get_or xs (length xs - 1) t → reverse xs ≡ t ∷ reverse (take (length xs - 1) xs)
  last_is_top xs t some is =
      ap reverse (sym whole) ∙ reverse-append (take (length xs - 1) xs) (t ∷ [])
    where
      whole : take (length xs - 1) xs ++ t ∷ [] ≡ xs
      whole =
          ap (λ (u : Tree V O). take (length xs - 1) xs ++ u ∷ []) is
          ∙ sym (take-suc xs (length xs - 1) t (omega arith))
          ∙ take_all (suc (length xs - 1)) xs (omega arith)

  -- the function that words name, and none
  named_is : (x : Function V O) (o : Option Shipped) → Some x ≡ option_map ours o
      → (f : Shipped) × (o ≡ Some f) × (x ≡ ours f)
  named_is x None e = cc
  named_is x (Some f) e = (f, refl, cc)

  abbrev as_function : Option Shipped → Option (Function V O)
  as_function o = option_map ours o

  unnamed : (o : Option Shipped) → None ≡ as_function o → o ≡ None
  unnamed None e = refl
  unnamed (Some f) e = cc

  module _ (m : Meaning V O) where
    call_typed : (f : Function V O) (ts : List (Tree V O)) (t : Tree V O) → IsCall m f ts t
        → is_some (tree_type m (call f (trees_of ts))) ≡ true
    call_typed f ts t h =
        let allowed : fits (function_arity m f) (length h.types) ≡ true =
        ap (fits (function_arity m f)) (type_count m ts h.types h.typed) ∙ h.arity in
        ap (λ (o : Option (List LogicalType)). is_some (option_and_then (call_type m f) o)) h.typed
        ∙ (λ i. is_some (if allowed i then h.accepted i else None))

    none_either : (b : Bool) (o : Option LogicalType) → o ≡ None
        → is_some (if b then o else None) ≡ false
    none_either true o e = ap is_some e
    none_either false o e = refl

    call_untyped : (f : Function V O) (ts : List (Tree V O)) (ks : List LogicalType)
        → tree_types m (trees_of ts) ≡ Some ks → function_type m f ks ≡ None
        → is_some (tree_type m (call f (trees_of ts))) ≡ false
    call_untyped f ts ks e none =
        ap (λ (o : Option (List LogicalType)). is_some (option_and_then (call_type m f) o)) e
        ∙ none_either (fits (function_arity m f) (length ks)) (function_type m f ks) none

    module _ (words : List (List ℕ)) (chosen : Option (Option ℕ)) (s : SessionView V O)
        (known : is_none s.row_count ≡ false) where
      abbrev Call : Step V O
      Call = after_rows s.row_count (λ n. with_call m s (shipped_called words chosen))

      called : (o : Option Shipped) → shipped_called words chosen ≡ o → with_call m s o ≡ Call
      called o e = ap (with_call m s) (sym e) ∙ after_some s.row_count _ known

      pub no_function : None ≡ as_function (shipped_called words chosen) → is_malformed ≡ Call
      no_function e = called None (unnamed (shipped_called words chosen) e)

      -- the function that they name, its arity, and the trees on the stack
      module _ (x : Function V O) (n : ℕ) (items : List (Tree V O))
          (is : Some x ≡ as_function (shipped_called words chosen))
          (least : n ≡ least_count (function_arity m x)) (top : reverse items ≡ s.stack) where
        shipped : (f : Shipped) × (shipped_called words chosen ≡ Some f) × (x ≡ ours f)
        shipped = named_is x (shipped_called words chosen) is

        count_is : n ≡ least_count (shipped_arity shipped.0)
        count_is = least ∙ ap (λ (g : Function V O). least_count (function_arity m g)) shipped.2

        with_taken_is : (o : Option (List (Tree V O) × List (Tree V O)))
            → taken n (reverse items) ≡ o → with_taken m shipped.0 s o ≡ Call
        with_taken_is o e =
            ap (with_taken m shipped.0 s) (sym e ∙ (λ i. taken (count_is i) (top i)))
            ∙ called (Some shipped.0) shipped.1

        pub no_arguments : length items < n → is_malformed ≡ Call
        no_arguments h = with_taken_is None (too_few n items h)

        module _ (k : ℕ) (ts kept : List (Tree V O)) (counted : k + n ≡ length items)
            (last : ts ≡ drop k items) (first : kept ≡ take k items) where
          abbrev Made : Step V O
          Made = goes_on (pushed (call_of m shipped.0 ts) (reverse kept) s)

          abbrev Refuse : List LogicalType → Step V O
          Refuse ks = refused_at m (shipped_place shipped.0 ks)

          by_type : (b : Bool) → is_some (tree_type m (call_of m shipped.0 ts)) ≡ b
              → (if b then Made else Refuse (types_or_none (tree_types m (trees_of ts)))) ≡ Call
          by_type b h =
              (λ i. if sym h i then Made else Refuse (types_or_none (tree_types m (trees_of ts))))
              ∙ with_taken_is (Some (ts, reverse kept))
              (last_taken n items k counted ∙ (λ i. Some (sym last i, reverse (sym first i))))

          pub call_made : (t : Tree V O) → IsCall m x ts t
              → goes_on (pushed t (reverse kept) s) ≡ Call
          call_made t h =
              let made = subst (λ (g : Function V O). IsCall m g ts t) shipped.2 h in
              ap (λ (u : Tree V O). goes_on (pushed u (reverse kept) s)) made.is
              ∙ by_type true (call_typed (ours shipped.0) ts t made)

          placed : (o : Option MismatchPlace) (d : VortexError) → IsMismatchAt o d
              → refuses d ≡ refused_at m o
          placed None d h = absurd h
          placed (Some p) d h = ap refuses h

          refused_ours : (d : VortexError) → RefusesCall m (ours shipped.0) ts d → refuses d ≡ Call
          refused_ours d (count h is) =
              let many : length ts ≡ (row_function shipped.0).count =
              ap length last ∙ omega (arith, length-drop k items, counted, count_is) in
              let fit : fits (function_arity m (ours shipped.0)) (length ts) ≡ true =
              (unsigned_Decides (length ts) (row_function shipped.0).count).1 many in
              cc
          refused_ours d (types ks h typed none is) =
              placed (shipped_place shipped.0 ks) d is
              ∙ ap Refuse (sym (ap types_or_none typed))
              ∙ by_type false (call_untyped (ours shipped.0) ts ks typed none)

          pub call_refused : (d : VortexError) → RefusesCall m x ts d → refuses d ≡ Call
          call_refused d h =
              refused_ours d (subst (λ (g : Function V O). RefusesCall m g ts d) shipped.2 h)

    module _ (n : ℕ) (s : SessionView V O) (t : Tree V O) (rest : List (Tree V O))
        (top : s.stack ≡ t ∷ rest) where
      pub top_printed : (c : ColumnView) (text : List ℕ) → Executes m s.columns n t c
          → text ≡ column_line c
          → RunsTop m (Some n) s.stack s (goes_on (record s { printed = s.printed ++ text }))
      top_printed c text h e =
          subst
          (λ (stack : List (Tree V O)).
          RunsTop m (Some n) stack s (goes_on (record s { printed = s.printed ++ text })))
          (sym top)
          (prints c h (ap (λ (b : List ℕ). goes_on (record s { printed = s.printed ++ b })) e))

      pub top_refused : (e : VortexError) → RefusesExecution m s.columns n t e
          → RunsTop m (Some n) s.stack s (refuses e)
      top_refused e h =
          subst (λ (stack : List (Tree V O)). RunsTop m (Some n) stack s (refuses e)) (sym top)
          (refused e h refl)

      module _ (rs : Rules V O) (limit : ℕ) where
        pub top_printed_after : (c : ColumnView) (text : List ℕ)
            → ExecutesAfter m s.columns n (expression_step m rs) limit t c → text ≡ column_line c
            → RunsAfterTop m rs limit (Some n) s.stack s
            (goes_on (record s { printed = s.printed ++ text }))
        top_printed_after c text h e =
            subst
            (λ (stack : List (Tree V O)).
            RunsAfterTop m rs limit (Some n) stack s
            (goes_on (record s { printed = s.printed ++ text })))
            (sym top)
            (prints_after c h
            (ap (λ (b : List ℕ). goes_on (record s { printed = s.printed ++ b })) e))

        pub top_refused_after : (e : VortexError)
            → RefusesAfter m s.columns n (expression_step m rs) limit t e
            → RunsAfterTop m rs limit (Some n) s.stack s (refuses e)
        top_refused_after e h =
            subst
            (λ (stack : List (Tree V O)). RunsAfterTop m rs limit (Some n) stack s (refuses e))
            (sym top) (refused_after e h refl)

    -- a run whose end is given by a flag replaces the last tree
    module _ (rs : Rules V O) (s : SessionView V O) (t last : Tree V O)
        (rest : List (Tree V O)) (count : ℕ) (done : Bool) where
      abbrev Replaced : List ℕ → Step V O
      Replaced text = goes_on (record s { stack = last ∷ rest; printed = s.printed ++ text })

      in_place : (r : Option ℕ) (x : Step V O) → is_none r ≡ false → Optimizes m rs t rest s x
          → OptimizesTop m rs r (t ∷ rest) s x
      in_place None x h o = cc
      in_place (Some n) x h o = o

      ended : (limit : ℕ) (b : Bool) (P : Type 0) → (IsTrue b ↔ P) → (b ≡ false → count ≡ limit)
          → P ⊎ (count ≡ limit)
      ended limit true P over stopped = inl (over.0 refl)
      ended limit false P over stopped = inr (stopped refl)

      told_by : (b : Bool) (o : Option (Tree V O)) → (IsTrue b ↔ (o ≡ None)) → b ≡ is_none o
      told_by true o over = sym (ap is_none (over.0 refl))
      told_by false None over = over.1 refl
      told_by false (Some u) over = refl

      pub top_optimized : is_none s.row_count ≡ false → s.stack ≡ t ∷ rest
          → Runs (expression_step m rs) count t last → count ≤ weight_told m t
          → (IsTrue done ↔ (step (expression_step m rs) last ≡ None))
          → (done ≡ false → count ≡ weight_told m t) → (text : List ℕ)
          → text ≡ steps_text count done
          → OptimizesTop m rs s.row_count s.stack s (Replaced text)
      top_optimized known top run most over stopped text e =
          let limit = weight_told m t in
          let end = ended limit done (step (expression_step m rs) last ≡ None) over stopped in
          let flag = told_by done (step (expression_step m rs) last) over in
          let made : Optimizes m rs t rest s (Replaced text) =
          record {
            last = last;
            run = (count, most, run, end);
            is = ap Replaced (e ∙ ap (steps_text count) flag);
          } in
          subst (λ (stack : List (Tree V O)). OptimizesTop m rs s.row_count stack s (Replaced text))
          (sym top) (in_place s.row_count (Replaced text) known made)

  -- an error that a `?` passes on
  pub answers_refusal : (R : Step V O → Type 0) (Q : VortexError → Type 0) (s : SessionView V O)
      (r : Result (Option (String Global)) VortexError) (e : VortexError)
      → ((d : VortexError) → Q d → R (refuses d)) → IsErrAnd r (λ y. y ≡ e)
      → UnlessMemory Q e → Answers r (λ text. R (after_text s text)) (λ d. R (refuses d))
  answers_refusal R Q s r e weaker h u =
      let p = err_from_is_err_and r h in
      rw (p.1, p.2) (UnlessMemory-weaker Q (λ d. R (refuses d)) weaker e u)

  -- the same for a line
  pub stops : (P : SessionView V O → Step V O → Type 0) (Q : VortexError → Type 0)
      (s t : SessionView V O) (r : Result (Unit {0}) Stop) (e : VortexError)
      → ((d : VortexError) → Q d → P s (refuses d)) → IsErrAnd r (λ y. y ≡ Refused e)
      → UnlessMemory Q e → t.printed ≡ s.printed → MakesStep P s r t
  stops P Q s t r e weaker h u kept =
      let p = err_from_is_err_and r h in
      rw (p.1, p.2) (UnlessMemory-weaker Q (λ d. P s (refuses d)) weaker e u, kept)

shown_where : {V O : Type 0} (s : SessionView V O) (written text : List ℕ) (o : Option (List ℕ))
    → IfSome o (λ bytes. written ≡ bytes) → text ≡ written ++ 10 ∷ []
    → IfSome o (λ bytes. goes_on (record s { printed = s.printed ++ text }) ≡ shown_by bytes s)
shown_where s written text None k e = tt
shown_where s written text (Some bytes) k e =
    ap (λ (b : List ℕ). goes_on (record s { printed = s.printed ++ b }))
    (e ∙ ap (λ (b : List ℕ). b ++ 10 ∷ []) k)

-- the text of the tree on top, with a newline
pub top_shown : {V O : Type 0} (s : SessionView V O) (n : ℕ) (t : Tree V O) (rest : List (Tree V O))
    (written text : List ℕ)
    → s.stack ≡ t ∷ rest → IfSome (tree_text t) (λ bytes. written ≡ bytes)
    → text ≡ written ++ 10 ∷ []
    → ShowsTop (Some n) s.stack s (goes_on (record s { printed = s.printed ++ text }))
top_shown {V} {O} s n t rest written text top h e =
    subst
    (λ (ts : List (Tree V O)).
    ShowsTop (Some n) ts s (goes_on (record s { printed = s.printed ++ text })))
    (sym top) (shown_where s written text (tree_text t) h e)
