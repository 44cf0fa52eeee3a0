-- What is left of a node, from what is left of its children; and a literal in its place.
use Rattle.std.specs.Prelude.{◌≡◌, ℕ, ◌<◌, List, [], ◌∷◌, Some, map, refl, IsSome}
use Rattle.std.specs.Prelude.{length, take, slice_get}
use Rattle.std.specs.Option.{option_and_then}
use Rattle.std.proofs.Common.{sym, ap, ◌∙◌, subst}
use Rattle.vortex_types.specs.LogicalTypes.{LogicalType}
use Rattle.vortex_types.specs.Values.{Value}
use Rattle.vortex_columns.specs.ColumnView.{ColumnView}
use Rattle.vortex_statistics.specs.StatisticsView.{StatisticsView}
use Rattle.vortex_interface.specs.Meaning.{Meaning}
use Rattle.vortex_interface.specs.Functions.{Function, call_type, function_means}
use Rattle.vortex_interface.specs.Trees.{Tree, leaf, constant, call, Trees, no_trees, tree}
use Rattle.vortex_interface.specs.Trees.{trees_of, list_of, children_of}
use Rattle.vortex_interface.specs.Eval.{with_type, types_or_none, with_first, then_means}
use Rattle.vortex_interface.specs.Eval.{tree_type, tree_types, eval, eval_all}
use Rattle.vortex_interface.specs.Execution.{AllLeavesFit}
use Rattle.vortex_errors.specs.declared.error.VortexError.{VortexError}
use Rattle.vortex_errors.specs.Answers.{UnlessMemory}
use Rattle.vortex_errors.proofs.Answering.{UnlessMemory-weaker}
use Rattle.vortex_functions.specs.Walks.{AllMean}
use Rattle.vortex_functions.proofs.Upward.{fit_downward}
use Rattle.vortex_rewriting.specs.Places.{with_children}
use Rattle.vortex_rewriting.proofs.FrameWalks.{some_is}
use Rattle.vortex_ranges.specs.BoundViews.{range_of}
use Rattle.vortex_ranges.specs.Ranges.{RangeView}
use Rattle.vortex_ranges.specs.Described.{DescribeAll}
use Rattle.vortex_pruning.specs.Knowing.{typed_column, Knows, RefusesLeaves}
use Rattle.vortex_pruning.specs.declared.residuals.ResidualTree.{ResidualTree}
use Rattle.vortex_pruning.specs.Residuals.{sole_value, IsSettledTo, Leaves, IsResidual}
use Rattle.vortex_pruning.proofs.SoleValues.{sole_outcome}

module _ {V O : Type 0} (m : Meaning V O) (n : ℕ) (ss : List StatisticsView) where
  abbrev pub trees_left : List (ResidualTree (Tree V O)) → List (Tree V O)
  trees_left rs = map (λ r. r.tree) rs

  -- what is known of the children's ranges
  pub ranges_known : (ts : List (Tree V O)) (rs : List (ResidualTree (Tree V O)))
      → AllMean (IsResidual m n ss) ts rs
      → AllMean (λ t r. Knows m n ss t (range_of r)) ts (map (λ r. r.range) rs)
  ranges_known [] [] h = tt
  ranges_known [] (r ∷ rs) h = absurd h
  ranges_known (t ∷ ts) [] h = absurd h
  ranges_known (t ∷ ts) (r ∷ rs) h = (h.0.known, ranges_known ts rs h.1)

  same_types : (ts : Trees V O) (rs : List (ResidualTree (Tree V O)))
      → AllMean (IsResidual m n ss) (list_of ts) rs
      → tree_types m (trees_of (trees_left rs)) ≡ tree_types m ts
  same_types no_trees [] h = refl
  same_types no_trees (r ∷ rs) h = absurd h
  same_types (tree t ts) [] h = absurd h
  same_types (tree t ts) (r ∷ rs) h =
      ap (λ a. with_type a (tree_types m (trees_of (trees_left rs)))) h.0.dtype
      ∙ ap (with_type (tree_type m t)) (same_types ts rs h.1)

  all_told : (ts : Trees V O) (rs : List (ResidualTree (Tree V O)))
      → AllMean (IsResidual m n ss) (list_of ts) rs
      → AllLeavesFit (map typed_column ss) (trees_of (trees_left rs))
  all_told no_trees [] h = tt
  all_told no_trees (r ∷ rs) h = absurd h
  all_told (tree t ts) [] h = absurd h
  all_told (tree t ts) (r ∷ rs) h = (h.0.told, all_told ts rs h.1)

  module _ (cs : List ColumnView) (d : DescribeAll n ss cs) (i : ℕ) (lt : i < n) where
    same_inputs : (ts : Trees V O) (rs : List (ResidualTree (Tree V O)))
        → AllMean (IsResidual m n ss) (list_of ts) rs
        → eval_all m cs (trees_of (trees_left rs)) i ≡ eval_all m cs ts i
    same_inputs no_trees [] h = refl
    same_inputs no_trees (r ∷ rs) h = absurd h
    same_inputs (tree t ts) [] h = absurd h
    same_inputs (tree t ts) (r ∷ rs) h =
        ap (λ o. with_first o (eval_all m cs (trees_of (trees_left rs)) i)) (h.0.rows cs d i lt)
        ∙ ap (with_first (eval m cs t i)) (same_inputs ts rs h.1)

    same_outcome : (f : Function V O) (ts : Trees V O) (rs : List (ResidualTree (Tree V O)))
        → AllMean (IsResidual m n ss) (list_of ts) rs
        → eval m cs (call f (trees_of (trees_left rs))) i ≡ eval m cs (call f ts) i
    same_outcome f ts rs h =
        let us = trees_of (trees_left rs) in
        ap (λ o. then_means (function_means m f (types_or_none o)) (eval_all m cs us i))
        (same_types ts rs h)
        ∙ ap (then_means (function_means m f (types_or_none (tree_types m ts))))
        (same_inputs ts rs h)

  -- the range leaves no value of the tree's type
  abbrev pub LeavesMore : Tree V O → RangeView → Type 0
  LeavesMore t r =
      (k : LogicalType) (v : Value) → tree_type m t ≡ Some k → ¬ IsSettledTo k r v

  pub leaves_more : (t : Tree V O) (r : RangeView) (k : LogicalType) → tree_type m t ≡ Some k
      → ((v : Value) → ¬ IsSettledTo k r v) → LeavesMore t r
  leaves_more t r k e h l v f s =
      let p : Some k ≡ Some l = sym e ∙ f in
      let is : k ≡ l = cc in
      h v (subst (λ (x : LogicalType). IsSettledTo x r v) (sym is) s)

  pub over_left : (t : Tree V O) (rs : List (ResidualTree (Tree V O))) (r : RangeView)
      → AllMean (IsResidual m n ss) (children_of t) rs → Knows m n ss t r → LeavesMore t r
      → Leaves m n ss t (with_children t (trees_left rs)) r
  over_left (leaf l) rs r h known more = record {
    known = known;
    dtype = refl;
    told = known.told;
    rows = λ cs d i lt. refl;
    settled = λ k v e s. absurd (more k v e s);
  }
  over_left (constant x) rs r h known more = record {
    known = known;
    dtype = refl;
    told = known.told;
    rows = λ cs d i lt. refl;
    settled = λ k v e s. absurd (more k v e s);
  }
  over_left (call f ts) rs r h known more = record {
    known = known;
    dtype = ap (option_and_then (call_type m f)) (same_types ts rs h);
    told = all_told ts rs h;
    rows = λ cs d i lt. same_outcome cs d i lt f ts rs h;
    settled = λ k v e s. absurd (more k v e s);
  }

  -- other children keep a node well typed
  pub still_typed : (t : Tree V O) (rs : List (ResidualTree (Tree V O))) (k : LogicalType)
      → AllMean (IsResidual m n ss) (children_of t) rs → tree_type m t ≡ Some k
      → IsSome (tree_type m (with_children t (trees_left rs)))
  still_typed t rs k h e =
      some_is (tree_type m (with_children t (trees_left rs))) k (by t h ∙ e)
    where
      by : (t : Tree V O) → AllMean (IsResidual m n ss) (children_of t) rs
          → tree_type m (with_children t (trees_left rs)) ≡ tree_type m t
      by (leaf l) h = refl
      by (constant x) h = refl
      by (call f ts) h = ap (option_and_then (call_type m f)) (same_types ts rs h)

  pub literal_left : (t : Tree V O) (r : RangeView) (k : LogicalType) (v : Value)
      → Knows m n ss t r → tree_type m t ≡ Some k → sole_value r ≡ Some v
      → Leaves m n ss t (constant (record { dtype = k; value = v })) r
  literal_left t r k v known typed sole = record {
    known = known;
    dtype = sym typed;
    told = tt;
    rows = λ cs d i lt.
        sym (sole_outcome r v (eval m cs t i) sole (known.admitted cs d i lt));
    settled = λ l w e s.
        let p : Some k ≡ Some l = sym typed ∙ e in
        let q : Some v ≡ Some w = sym sole ∙ s.0 in
        let a : k ≡ l = cc in
        let b : v ≡ w = cc in
        (λ i. constant (record { dtype = a i; value = b i }));
  }

  -- a child that is refused is its parent's refusal
  pub child_refused : (t child : Tree V O) (os : List (ResidualTree (Tree V O))) (e : VortexError)
      → AllMean (IsResidual m n ss) (take (length os) (children_of t)) os
      → slice_get (children_of t) (length os) ≡ Some child
      → UnlessMemory (RefusesLeaves ss child) e → UnlessMemory (RefusesLeaves ss t) e
  child_refused t child os e h at r =
      UnlessMemory-weaker (RefusesLeaves ss child) (RefusesLeaves ss t)
      (λ x p. (p.0, λ told. p.1 (fit_downward (map typed_column ss) t child (length os) at told)))
      e r
