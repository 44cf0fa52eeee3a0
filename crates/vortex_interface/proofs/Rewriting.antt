-- Rewrites compose, and a rewrite of a child is one of its call.
use Rattle.std.proofs.Common.{◌≡◌, ℕ, zero, suc, List, [], ◌∷◌, Some, refl, ap, ◌∙◌, subst}
use Rattle.std.proofs.Math.Logic.{⊎_map}
use Rattle.std.specs.Prelude.{slice_get, slice_set}
use Rattle.std.specs.Option.{option_and_then}
use Rattle.vortex_types.specs.LogicalTypes.{LogicalType}
use Rattle.vortex_types.specs.Values.{Value}
use Rattle.vortex_columns.specs.ColumnView.{ColumnView}
use Rattle.vortex_interface.specs.Meaning.{Meaning}
use Rattle.vortex_interface.specs.Functions.{Function, function_means, call_type}
use Rattle.vortex_interface.specs.Trees.{place, Tree, call, Trees, tree, trees_of}
use Rattle.vortex_interface.specs.Leaves.{IsLeafIn}
use Rattle.vortex_interface.specs.Eval.{all_give, with_first, then_means, types_or_none, with_type}
use Rattle.vortex_interface.specs.Eval.{tree_types, eval, eval_all}
use Rattle.vortex_interface.specs.Rules.{truth_constant}
use Rattle.vortex_interface.specs.Rewrites.{AllHaveRow, AsksNoMore, Rewrites}
use Rattle.vortex_interface.specs.Bound.{AllOnlyPlaces}
use Rattle.vortex_interface.proofs.TypedCalls.{means_parts, values_parts}

module _ {V O : Type 0} where
  pub asks_same : (t : Tree V O) → AsksNoMore t t
  asks_same t = record { leaves = λ p name k h. h; rows = λ cs i h. h; places = λ h. h }

  pub asks_trans : (t u v : Tree V O) → AsksNoMore t u → AsksNoMore u v → AsksNoMore t v
  asks_trans t u v a b = record {
    leaves = λ p name k h. a.leaves p name k (b.leaves p name k h);
    rows = λ cs i h. b.rows cs i (a.rows cs i h);
    places = λ h. b.places (a.places h);
  }

  -- a truth value requires nothing
  pub asks_nothing : (t : Tree V O) (n b : _) → AsksNoMore t (truth_constant n b)
  asks_nothing t n b =
      record { leaves = λ p name k h. absurd h; rows = λ cs i h. tt; places = λ h. tt }

  module _ (m : Meaning V O) where
    pub rewrites_same : (t : Tree V O) → Rewrites m t t
    rewrites_same t = record { dtype = refl; asks = asks_same t; value = λ cs i w p e. e }

    pub rewrites_trans : (t u v : Tree V O) → Rewrites m t u → Rewrites m u v → Rewrites m t v
    rewrites_trans t u v a b = record {
      dtype = b.dtype ∙ a.dtype;
      asks = asks_trans t u v a.asks b.asks;
      value = λ cs i w p e. b.value cs i w (a.asks.rows cs i p) (a.value cs i w p e);
    }

    -- the same for lists of trees
    pub record AllRewrite (ts us : Trees V O) : Type 0 where
      pub dtypes : tree_types m us ≡ tree_types m ts
      pub leaves : (p : ℕ) (name : List ℕ) (k : LogicalType) → IsLeafIn (place p name k) us
          → IsLeafIn (place p name k) ts
      pub rows : (cs : List ColumnView) (i : ℕ) → AllHaveRow cs i ts → AllHaveRow cs i us
      pub places : AllOnlyPlaces ts → AllOnlyPlaces us
      pub values : (cs : List ColumnView) (i : ℕ) (ws : List Value) → AllHaveRow cs i ts
          → eval_all m cs ts i ≡ all_give ws → eval_all m cs us i ≡ all_give ws

    pub all_same : (ts : Trees V O) → AllRewrite ts ts
    all_same ts = record {
      dtypes = refl;
      leaves = λ p name k h. h;
      rows = λ cs i h. h;
      places = λ h. h;
      values = λ cs i ws p e. e;
    }

    pub all_rewrite : (t u : Tree V O) (ts us : Trees V O) → Rewrites m t u → AllRewrite ts us
        → AllRewrite (tree t ts) (tree u us)
    all_rewrite t u ts us a b = record {
      dtypes = λ j. with_type (a.dtype j) (b.dtypes j);
      leaves = λ p name k h. ⊎_map (a.asks.leaves p name k) (b.leaves p name k) h;
      rows = λ cs i h. (a.asks.rows cs i h.0, b.rows cs i h.1);
      places = λ h. (a.asks.places h.0, b.places h.1);
      values = λ cs i ws p e.
          let q = values_parts (eval m cs t i) (eval_all m cs ts i) ws e in
          let one = a.value cs i q.0 p.0 q.2 in
          let others = b.values cs i q.1 p.1 q.3 in
          (λ j. with_first (one j) (others j)) ∙ ap all_give q.4;
    }

    -- children rewritten below a call
    pub call_rewrites : (f : Function V O) (ts us : Trees V O) → AllRewrite ts us
        → Rewrites m (call f ts) (call f us)
    call_rewrites f ts us a = record {
      dtype = ap (option_and_then (call_type m f)) a.dtypes;
      asks = record { leaves = a.leaves; rows = a.rows; places = a.places };
      value = λ cs i w p e.
          let means = function_means m f (types_or_none (tree_types m ts)) in
          let q = means_parts means (eval_all m cs ts i) w e in
          let children = a.values cs i q.0 p q.1 in
          (λ j. then_means (function_means m f (types_or_none (a.dtypes j))) (children j)) ∙ q.2;
    }

    one_rewritten : (ts : List (Tree V O)) (k : ℕ) (t u : Tree V O) → slice_get ts k ≡ Some t
        → Rewrites m t u → AllRewrite (trees_of ts) (trees_of (slice_set ts k u))
    one_rewritten [] k t u h a = cc
    one_rewritten (x ∷ xs) zero t u h a =
        let is : t ≡ x = cc in
        all_rewrite x u (trees_of xs) (trees_of xs) (subst (λ y. Rewrites m y u) is a)
        (all_same (trees_of xs))
    one_rewritten (x ∷ xs) (suc k) t u h a =
        all_rewrite x x (trees_of xs) (trees_of (slice_set xs k u)) (rewrites_same x)
        (one_rewritten xs k t u h a)

    -- one child rewritten below a call
    pub child_rewrites : (f : Function V O) (ts : List (Tree V O)) (k : ℕ) (t u : Tree V O)
        → slice_get ts k ≡ Some t → Rewrites m t u
        → Rewrites m (call f (trees_of ts)) (call f (trees_of (slice_set ts k u)))
    child_rewrites f ts k t u h a =
        call_rewrites f (trees_of ts) (trees_of (slice_set ts k u)) (one_rewritten ts k t u h a)
