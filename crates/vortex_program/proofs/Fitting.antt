-- Columns that fit trees fit what these are rewritten to.
use Rattle.std.proofs.Common.{◌≡◌, ℕ, List, [], ◌∷◌, Option, Some, None, refl, sym, subst, inl, inr}
use Rattle.std.proofs.Common.{arith}
use Rattle.std.proofs.Math.Logic.{∥∥₁_elim, ∥∥₁_map}
use Rattle.std.proofs.Props.{props}
use base.Stored.{Coded-set}
use Rattle.vortex_types.specs.LogicalTypes.{LogicalType}
use Rattle.vortex_types.specs.Codes.{coded_type}
use Rattle.vortex_columns.specs.ColumnView.{ColumnView}
use Rattle.vortex_interface.specs.Trees.{Leaf, place, held, Tree, leaf, constant, call, Trees}
use Rattle.vortex_interface.specs.Trees.{no_trees, tree}
use Rattle.vortex_interface.specs.Leaves.{IsLeafOf, IsLeafIn}
use Rattle.vortex_interface.specs.Execution.{LeafFits, LeavesFit, AllLeavesFit}
use Rattle.vortex_interface.specs.Rewrites.{Rewrites}
use Rattle.vortex_functions.specs.Executing.{Fits}
use Rattle.vortex_functions.specs.Walks.{AllMean}
use Rattle.vortex_expressions.specs.Items as items
use Rattle.vortex_expressions.specs.Items.{meaning}
use Rattle.vortex_program.specs.declared.answer.Answer as bound
use Rattle.vortex_program.specs.Programs.{AreOptimized, AreRewrites}
use Rattle.vortex_program.specs.Executing.{AllFit}

pub all_rewrites : (xs os : List bound.Answer) → AreOptimized xs os → AreRewrites xs os
all_rewrites [] [] h = tt
all_rewrites [] (o ∷ os) h = h
all_rewrites (x ∷ xs) [] h = h
all_rewrites (x ∷ xs) (o ∷ os) h = (h.0.tree.kept, all_rewrites xs os h.1)

-- a column of that type, if it is a bare fact that there is one
place_known : (a : Option ColumnView) (k : LogicalType)
    → ∥ ((c : ColumnView) × (a ≡ Some c) × (c.dtype ≡ k)) ∥₁
    → (c : ColumnView) × (a ≡ Some c) × (c.dtype ≡ k)
place_known None k h =
    let no : ◌≡◌ {A = ℕ} 0 1 =
    ∥∥₁_elim h (search props) (λ x. let none : None ≡ Some x.0 = x.1 in cc) in
    absurd (omega (arith, no))
place_known (Some c) k h =
    (c, refl, ∥∥₁_elim h (search (props, Coded-set, coded_type)) (λ x. let same : c.dtype ≡ k = cc in same))

module _ {V O : Type 0} (cs : List ColumnView) where
  mutual
    -- a place that is a leaf of a tree that columns fit has its column
    leaf_fits : (t : Tree V O) (l : Leaf) → LeavesFit cs t → IsLeafOf l t → LeafFits cs l
    leaf_fits (leaf k) l fit is = subst (λ (x : Leaf). LeafFits cs x) (sym is) fit
    leaf_fits (constant s) l fit is = absurd is
    leaf_fits (call f ts) l fit is = leaf_in_fits ts l fit is

    leaf_in_fits : (ts : Trees V O) (l : Leaf) → AllLeavesFit cs ts → IsLeafIn l ts
        → LeafFits cs l
    leaf_in_fits no_trees l fit is = absurd is
    leaf_in_fits (tree t ts) l fit (inl is) = leaf_fits t l fit.0 is
    leaf_in_fits (tree t ts) l fit (inr is) = leaf_in_fits ts l fit.1 is

  mutual
    -- columns fit a tree if each place that is a leaf of it has its column
    fits_by : (t : Tree V O)
        → ((p : ℕ) (name : List ℕ) (k : LogicalType) → IsLeafOf (place p name k) t
        → LeafFits cs (place p name k)) → LeavesFit cs t
    fits_by (leaf (place p name k)) h = h p name k refl
    fits_by (leaf (held c)) h = tt
    fits_by (constant s) h = tt
    fits_by (call f ts) h = all_fit_by ts h

    all_fit_by : (ts : Trees V O)
        → ((p : ℕ) (name : List ℕ) (k : LogicalType) → IsLeafIn (place p name k) ts
        → LeafFits cs (place p name k)) → AllLeavesFit cs ts
    all_fit_by no_trees h = tt
    all_fit_by (tree t ts) h = (
      fits_by t (λ p name k is. h p name k (inl is)),
      all_fit_by ts (λ p name k is. h p name k (inr is)),
    )

  mutual
    -- columns fit a tree if it is a bare fact that they do
    leaves_known : (t : Tree V O) → ∥ LeavesFit cs t ∥₁ → LeavesFit cs t
    leaves_known (leaf (place p name k)) h = place_known _ k h
    leaves_known (leaf (held c)) h = tt
    leaves_known (constant s) h = tt
    leaves_known (call f ts) h = all_leaves_known ts h

    all_leaves_known : (ts : Trees V O) → ∥ AllLeavesFit cs ts ∥₁ → AllLeavesFit cs ts
    all_leaves_known no_trees h = tt
    all_leaves_known (tree t ts) h =
        (leaves_known t (∥∥₁_map h (λ f. f.0)), all_leaves_known ts (∥∥₁_map h (λ f. f.1)))

module _ (cs : List ColumnView) (n : ℕ) where
  all_known : (us : List items.Tree) → ∥ AllFit cs n us ∥₁ → AllFit cs n us
  all_known [] h = tt
  all_known (u ∷ us) h = (
    (leaves_known cs u (∥∥₁_map h (λ f. f.0.0)), ∥∥₁_elim h (search props) (λ f. f.0.1)),
    all_known us (∥∥₁_map h (λ f. f.1)),
  )

  fits_rewrite : (t u : items.Tree) → Rewrites meaning t u → Fits cs n t → Fits cs n u
  fits_rewrite t u r fit = (
    fits_by cs u (λ p name k is.
        leaf_fits cs t (place p name k) fit.0 (r.asks.leaves p name k is)),
    fit.1,
  )

  all_rewritten : (ts us : List items.Tree) → AllMean (Rewrites meaning) ts us → AllFit cs n ts
      → AllFit cs n us
  all_rewritten [] [] r fit = tt
  all_rewritten [] (u ∷ us) r fit = absurd r
  all_rewritten (t ∷ ts) [] r fit = absurd r
  all_rewritten (t ∷ ts) (u ∷ us) r fit =
      (fits_rewrite t u r.0 fit.0, all_rewritten ts us r.1 fit.1)

  -- columns that fit trees fit what these are rewritten to
  pub fit_rewrites : (ts us : List items.Tree) → ∥ AllMean (Rewrites meaning) ts us ∥₁
      → AllFit cs n ts → AllFit cs n us
  fit_rewrites ts us r fit = all_known us (∥∥₁_map r (λ s. all_rewritten ts us s fit))
