-- What is known of a leaf, of a literal, and of a call from what is known of its children.
use Rattle.std.specs.Prelude.{◌≡◌, ℕ, zero, suc, ◌<◌, ◌||◌, List, [], ◌∷◌, Option, Some, None, ⊤}
use Rattle.std.specs.Prelude.{Bool, true, map, slice_get, refl, length, take, IfSome}
use Rattle.std.specs.List.{list_any}
use Rattle.std.proofs.Common.{sym, ap, ◌∙◌, subst}
use Rattle.std.proofs.lemmas.Option.{slice_get-map}
use Rattle.std.specs.Option.{option_map}
use Rattle.vortex_types.specs.LogicalTypes.{LogicalType}
use Rattle.vortex_types.specs.ScalarView.{ScalarView}
use Rattle.vortex_types.specs.Values.{Value, null}
use Rattle.vortex_types.specs.Typing.{HasType}
use Rattle.vortex_columns.specs.ColumnView.{ColumnView, row}
use Rattle.vortex_statistics.specs.StatisticsView.{StatisticsView, AreConsistent}
use Rattle.vortex_interface.specs.Outcomes.{Outcome, gives, faults, Fault}
use Rattle.vortex_interface.specs.Meaning.{Meaning, Lawful}
use Rattle.vortex_interface.specs.Functions.{Function, function_type, function_means}
use Rattle.vortex_interface.specs.Trees.{place, held, Tree, leaf, constant, call, Trees}
use Rattle.vortex_interface.specs.Trees.{no_trees, tree, children_of, list_of, called, literal}
use Rattle.vortex_interface.specs.Bound.{IsBound}
use Rattle.vortex_interface.specs.Eval.{Inputs, all_give, one_faults, with_first, then_means}
use Rattle.vortex_interface.specs.Eval.{types_or_none, rows_or_none, tree_type, tree_types, eval}
use Rattle.vortex_interface.specs.Eval.{eval_all}
use Rattle.vortex_interface.specs.Execution.{AllLeavesFit}
use Rattle.vortex_interface.specs.Rewrites.{AllHaveRow}
use Rattle.vortex_interface.proofs.AfterRun.{bound_made}
use Rattle.vortex_interface.proofs.RewrittenRows.{fitting_row}
use Rattle.vortex_interface.proofs.TypedCalls.{typed_call}
use Rattle.vortex_interface.proofs.TypedValues.{values_typed}
use Rattle.vortex_ranges.specs.Ranges.{RangeView, Admits}
use Rattle.vortex_ranges.specs.Calls.{AdmitsOutcome, AllAdmit, AdmitsCalls}
use Rattle.vortex_ranges.specs.Described.{DescribeAll, described, literal_range}
use Rattle.vortex_ranges.proofs.Tests.{on_left, on_right}
use Rattle.vortex_ranges.proofs.DescribedRows.{described-admits, literal-admits}
use Rattle.vortex_errors.specs.declared.error.VortexError.{VortexError}
use Rattle.vortex_errors.specs.Answers.{UnlessMemory}
use Rattle.vortex_errors.proofs.Answering.{UnlessMemory-weaker}
use Rattle.vortex_functions.specs.Walks.{AllMean}
use Rattle.vortex_functions.specs.Binding.{IsLeaf, IsLeafAt}
use Rattle.vortex_functions.proofs.Upward.{fit_downward}
use Rattle.vortex_ranges.specs.declared.range.Range.{Range}
use Rattle.vortex_ranges.specs.BoundViews.{range_of}
use Rattle.vortex_pruning.specs.Knowing.{typed_column, AreTold, Knows, with_faults, HasStatistics}
use Rattle.vortex_pruning.specs.Knowing.{RefusesLeaves}
use Rattle.vortex_pruning.specs.Exact.{IsExact, IsCallRange}
use Rattle.vortex_pruning.specs.Sharpness.{HasRoom, AllReadOnce, IsExactIfReadOnce}
use Rattle.vortex_pruning.proofs.ExactLeaves.{leaf_exact, literal_exact}
use Rattle.vortex_pruning.proofs.ExactCalls.{AllReady, call_exact}
use Rattle.vortex_pruning.proofs.DescribedColumns.{described_lengths, described_typed}
use Rattle.vortex_pruning.proofs.DescribedColumns.{described_column, all_described_fit}

module _ {V O : Type 0} (m : Meaning V O) (n : ℕ) (ss : List StatisticsView) where
  pub literal_known : (s : ScalarView) → HasType s.dtype s.value
      → Knows m n ss (constant s) (literal_range s.value)
  literal_known s h = record {
    told = tt;
    own = refl;
    admitted = λ cs d i lt. literal-admits s.value;
    exact = λ once lt cs d k typed.
        let is : s.dtype ≡ k = cc in
        subst (λ (l : LogicalType). IsExact m n ss (constant s) l (literal_range s.value)) is
        (literal_exact m n ss cs d lt s.dtype s.value once h);
  }

  leaf_is_exact : (p : ℕ) (name : List ℕ) (s : StatisticsView) → slice_get ss p ≡ Some s
      → AreConsistent s
      → IsExactIfReadOnce m n ss (leaf (place p name s.dtype)) (described n s)
  leaf_is_exact p name s e consistent = λ once lt cs d k typed.
      let is : s.dtype ≡ k = cc in
      let room = subst (λ (o : Option StatisticsView). IfSome o (HasRoom n)) e once.1 in
      subst (λ (l : LogicalType).
      IsExact m n ss (leaf (place p name s.dtype)) l (described n s)) is
      (leaf_exact m n ss cs d lt p name s e consistent once.0 room)

  pub leaf_known : (p : ℕ) (name : List ℕ) (t : LogicalType) (s : StatisticsView)
      → slice_get ss p ≡ Some s → s.dtype ≡ t → AreConsistent s
      → Knows m n ss (leaf (place p name t)) (described n s)
  leaf_known p name t s e same consistent = record {
    told = (
      typed_column s,
      slice_get-map typed_column ss p ∙ ap (option_map typed_column) e,
      same,
    );
    admitted = λ cs d i h.
        let a = described_column n ss cs p s d e in
        subst (λ (o : Option ColumnView). Admits (described n s) (row (rows_or_none o) i))
        (sym a.1) (described-admits n s a.0 a.2 i h);
    exact = subst (λ (l : LogicalType).
        IsExactIfReadOnce m n ss (leaf (place p name l)) (described n s)) same
        (leaf_is_exact p name s e consistent);
    own = (s, e, refl);
  }

  -- what is known of the children, side by side
  abbrev pub AllKnown : Trees V O → List RangeView → Type 0
  AllKnown no_trees [] = ⊤
  AllKnown (tree t ts) (r ∷ rs) = Knows m n ss t r × AllKnown ts rs
  AllKnown ts rs = ⊥

  all_told : (ts : Trees V O) (rs : List RangeView) → AllKnown ts rs
      → AllLeavesFit (map typed_column ss) ts
  all_told no_trees [] h = tt
  all_told no_trees (r ∷ rs) h = absurd h
  all_told (tree t ts) [] h = absurd h
  all_told (tree t ts) (r ∷ rs) h = (h.0.told, all_told ts rs h.1)

  module _ (cs : List ColumnView) (d : DescribeAll n ss cs) (i : ℕ) (lt : i < n) where
    -- the fault of a child may be, and so may the values of all
    child_faults : (ts : Trees V O) (rs : List RangeView) (x : Fault) → AllKnown ts rs
        → eval_all m cs ts i ≡ one_faults x → list_any (λ r. r.may_fault) rs ≡ true
    child_faults no_trees rs x h e = cc
    child_faults (tree t ts) [] x h e = absurd h
    child_faults (tree t ts) (r ∷ rs) x h e =
        by (eval m cs t i) (eval_all m cs ts i) (h.0.admitted cs d i lt)
        (λ y q. child_faults ts rs y h.1 q) refl e
      where
        others : Bool
        others = list_any (λ (s : RangeView). s.may_fault) rs

        by : (o : Outcome) (inputs : Inputs) → AdmitsOutcome r o
            → ((y : Fault) → eval_all m cs ts i ≡ one_faults y → others ≡ true)
            → eval_all m cs ts i ≡ inputs → with_first o inputs ≡ one_faults x
            → (r.may_fault || others) ≡ true
        by (faults y) inputs p rest q g = on_left r.may_fault others p
        by (gives v) (one_faults y) p rest q g = on_right r.may_fault others (rest y q)
        by (gives v) (all_give vs) p rest q g = cc

    children_admit : (ts : Trees V O) (rs : List RangeView) (vs : List Value) → AllKnown ts rs
        → eval_all m cs ts i ≡ all_give vs → AllAdmit rs vs
    children_admit no_trees [] [] h e = tt
    children_admit no_trees [] (v ∷ vs) h e = cc
    children_admit no_trees (r ∷ rs) vs h e = absurd h
    children_admit (tree t ts) [] vs h e = absurd h
    children_admit (tree t ts) (r ∷ rs) vs h e =
        by (eval m cs t i) (eval_all m cs ts i) (h.0.admitted cs d i lt)
        (λ ws q. children_admit ts rs ws h.1 q) refl e
      where
        by : (o : Outcome) (inputs : Inputs) → AdmitsOutcome r o
            → ((ws : List Value) → eval_all m cs ts i ≡ all_give ws → AllAdmit rs ws)
            → eval_all m cs ts i ≡ inputs → with_first o inputs ≡ all_give vs
            → AllAdmit (r ∷ rs) vs
        by (faults y) inputs p rest q g = cc
        by (gives v) (one_faults y) p rest q g = cc
        by (gives v) (all_give ws) p rest q g =
            let is : v ∷ ws ≡ vs = cc in
            subst (λ (us : List Value). AllAdmit (r ∷ rs) us) is (p, rest ws q)

  -- of arguments that are known, what an exact call needs
  all_ready : (cs : List ColumnView) (d : DescribeAll n ss cs) (lt : 0 < n) (ts : Trees V O)
      (rs : List RangeView) → AllKnown ts rs → AllReadOnce n ss ts → AllReady m n ss cs d lt ts rs
  all_ready cs d lt no_trees [] h once = tt
  all_ready cs d lt no_trees (r ∷ rs) h once = absurd h
  all_ready cs d lt (tree t ts) [] h once = absurd h
  all_ready cs d lt (tree t ts) (r ∷ rs) h once = (
    (λ k e. h.0.exact once.0 lt cs d k e, h.0.admitted cs d 0 lt, h.0.own),
    all_ready cs d lt ts rs h.1 once.1,
  )

  weaker : (b : Bool) (r : RangeView) (o : Outcome) → AdmitsOutcome r o
      → AdmitsOutcome (with_faults b r) o
  weaker b r (faults x) h = on_right b r.may_fault h
  weaker b r (gives null) h = h
  weaker b r (gives v) h = h

  abbrev any_faulty : List RangeView → Bool
  any_faulty rs = list_any (λ (s : RangeView). s.may_fault) rs

  module _ (lawful : Lawful m) (f : Function V O) (ts : Trees V O) (t : LogicalType)
      (typed : tree_type m (call f ts) ≡ Some t) (bound : IsBound (call f ts))
      (rs : List RangeView) (known : AllKnown ts rs) (r : RangeView)
      (admits : AdmitsCalls (function_type m f) (function_means m f) t rs r)
      (shape : IsCallRange f t rs r) where
    all_rows : (cs : List ColumnView) → DescribeAll n ss cs → (i : ℕ) → i < n
        → AllHaveRow cs i ts
    all_rows cs d i lt =
        fitting_row cs n (described_lengths n ss cs d) (described_typed n ss cs d) (call f ts) i lt
        (all_described_fit n ss cs d ts (all_told ts rs known)) (bound_made n (call f ts) bound)

    call_admits : (cs : List ColumnView) → DescribeAll n ss cs → (i : ℕ) → i < n
        → AdmitsOutcome (with_faults (any_faulty rs) r) (eval m cs (call f ts) i)
    call_admits cs d i lt = by (eval_all m cs ts i) refl
      where
        means : Option (List LogicalType) → List Value → Outcome
        means o = function_means m f (types_or_none o)

        of_values : (vs : List Value) → eval_all m cs ts i ≡ all_give vs
            → AdmitsOutcome (with_faults (any_faulty rs) r) (means (tree_types m ts) vs)
        of_values vs e =
            let c = typed_call m f ts t typed in
            let have = values_typed m lawful cs i ts c.types vs c.children (all_rows cs d i lt) e in
            let here = admits c.types vs c.returns have (children_admit cs d i lt ts rs vs known e)
            in
            weaker (any_faulty rs) r (means (tree_types m ts) vs)
            (subst (λ (o : Option (List LogicalType)). AdmitsOutcome r (means o vs))
            (sym c.children) here)

        by : (x : Inputs) → eval_all m cs ts i ≡ x
            → AdmitsOutcome (with_faults (any_faulty rs) r) (then_means (means (tree_types m ts)) x)
        by (one_faults x) e =
            on_left (any_faulty rs) r.may_fault
            (child_faults cs d i lt ts rs x known e)
        by (all_give vs) e = of_values vs e

    call_known : Knows m n ss (call f ts) (with_faults (any_faulty rs) r)
    call_known = record {
      told = all_told ts rs known;
      admitted = call_admits;
      exact = λ once lt cs d k e.
          let p : Some t ≡ Some k = sym typed ∙ e in
          let is : t ≡ k = cc in
          subst (λ (l : LogicalType).
          IsExact m n ss (call f ts) l (with_faults (any_faulty rs) r)) is
          (call_exact m n ss cs d lt f ts t typed once.0 once.1 rs
          (all_ready cs d lt ts rs known once.1) r shape);
      own = tt;
    }

  -- the same of a node whose kind is told, with the results of a walk for its children
  abbrev pub KnowsRange : Tree V O → Range → Type 0
  KnowsRange t r = Knows m n ss t (range_of r)

  any_mapped : (rs : List Range) → any_faulty (map range_of rs) ≡ list_any (λ r. r.may_fault) rs
  any_mapped [] = refl
  any_mapped (r ∷ rs) = ap (λ b. r.may_fault || b) (any_mapped rs)

  side_by_side : (ts : Trees V O) (rs : List Range) → AllMean KnowsRange (list_of ts) rs
      → AllKnown ts (map range_of rs)
  side_by_side no_trees [] h = tt
  side_by_side no_trees (r ∷ rs) h = absurd h
  side_by_side (tree t ts) [] h = absurd h
  side_by_side (tree t ts) (r ∷ rs) h = (h.0, side_by_side ts rs h.1)

  module _ (lawful : Lawful m) (f : Function V O) (k : LogicalType) (rs : List Range)
      (r : RangeView)
      (admits : AdmitsCalls (function_type m f) (function_means m f) k (map range_of rs) r)
      (shape : IsCallRange f k (map range_of rs) r) where
    pub called_known : (t : Tree V O) → called t ≡ Some f → tree_type m t ≡ Some k → IsBound t
        → AllMean KnowsRange (children_of t) rs
        → Knows m n ss t (with_faults (list_any (λ s. s.may_fault) rs) r)
    called_known (leaf l) e typed bound h = cc
    called_known (constant s) e typed bound h = cc
    called_known (call g ts) e typed bound h =
        let is : f ≡ g = cc in
        let calls = subst (λ (x : Function V O).
        AdmitsCalls (function_type m x) (function_means m x) k (map range_of rs) r) is admits in
        subst (λ (b : Bool). Knows m n ss (call g ts) (with_faults b r)) (any_mapped rs)
        (call_known lawful g ts k typed bound (map range_of rs) (side_by_side ts rs h) r calls
        (subst (λ (x : Function V O). IsCallRange x k (map range_of rs) r) is shape))

  pub literal_node : (t : Tree V O) (s : ScalarView) → IsBound t → Some s ≡ literal t
      → Knows m n ss t (literal_range s.value)
  literal_node (leaf l) s h e = cc
  literal_node (call f ts) s h e = cc
  literal_node (constant x) s h e =
      let is : x ≡ s = cc in
      subst (λ (y : ScalarView). Knows m n ss (constant x) (literal_range y.value)) is
      (literal_known x h)

  pub column_node : (t : Tree V O) (p : ℕ) (k : LogicalType) (s : StatisticsView)
      → IsLeafAt p t → tree_type m t ≡ Some k → slice_get ss p ≡ Some s → s.dtype ≡ k
      → AreConsistent s → Knows m n ss t (described n s)
  column_node (leaf (place q name u)) p k s h typed e same c =
      let is : k ≡ u = cc in
      leaf_known q name u s (subst (λ (x : ℕ). slice_get ss x ≡ Some s) h e) (same ∙ is) c
  column_node (leaf (held x)) p k s h typed e same c = absurd h
  column_node (constant x) p k s h typed e same c = absurd h
  column_node (call f ts) p k s h typed e same c = absurd h

  pub no_node : (t : Tree V O) → called t ≡ None → None ≡ literal t → ¬ IsLeaf t → ⊥
  no_node (leaf l) e g h = h tt
  no_node (constant s) e g h = cc
  no_node (call f ts) e g h = cc

map_at : (ss : List StatisticsView) (p : ℕ) (c : ColumnView)
    → slice_get (map typed_column ss) p ≡ Some c
    → (s : StatisticsView) × (slice_get ss p ≡ Some s) × (s.dtype ≡ c.dtype)
map_at [] p c e = cc
map_at (s ∷ ss) zero c e =
    let is : typed_column s ≡ c = cc in (s, refl, ap (λ (y : ColumnView). y.dtype) is)
map_at (s ∷ ss) (suc p) c e = map_at ss p c e

-- a leaf without statistics of its type in its place
pub untold_node : {V O : Type 0} (m : Meaning V O) (ss : List StatisticsView) (t : Tree V O) (p : ℕ)
    (k : LogicalType) → IsLeafAt p t → tree_type m t ≡ Some k → ¬ HasStatistics ss p k
    → ¬ AreTold ss t
untold_node m ss (leaf (place q name u)) p k h typed none told =
    let is : u ≡ k = cc in
    let a = map_at ss q told.0 told.1 in
    none (a.0, subst (λ (x : ℕ). slice_get ss x ≡ Some a.0) (sym h) a.1, a.2 ∙ told.2 ∙ is)
untold_node m ss (leaf (held c)) p k h typed none told = absurd h
untold_node m ss (constant x) p k h typed none told = absurd h
untold_node m ss (call f ts) p k h typed none told = absurd h

-- a child that is refused is its parent's refusal
pub refusal_upward : {V O : Type 0} (m : Meaning V O) (n : ℕ) (ss : List StatisticsView)
    (t child : Tree V O) (os : List Range) (e : VortexError)
    → AllMean (λ t r. Knows m n ss t (range_of r)) (take (length os) (children_of t)) os
    → slice_get (children_of t) (length os) ≡ Some child
    → UnlessMemory (RefusesLeaves ss child) e → UnlessMemory (RefusesLeaves ss t) e
refusal_upward m n ss t child os e h at r =
    UnlessMemory-weaker (RefusesLeaves ss child) (RefusesLeaves ss t)
    (λ d p. (p.0, λ told. p.1 (fit_downward (map typed_column ss) t child (length os) at told))) e r
