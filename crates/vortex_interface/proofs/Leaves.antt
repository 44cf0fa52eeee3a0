-- The leaves of calls, and of a tree that requires no more of columns than another.
use Rattle.std.proofs.Common.{ℕ, ◌⊎◌, inl, inr, List, refl, sym, subst}
use Rattle.vortex_types.specs.LogicalTypes.{LogicalType}
use Rattle.vortex_columns.specs.ColumnView.{ColumnView}
use Rattle.vortex_interface.specs.Trees.{Leaf, place, held, Tree, leaf, constant, call, Trees}
use Rattle.vortex_interface.specs.Trees.{no_trees, tree}
use Rattle.vortex_interface.specs.Leaves.{IsLeafOf, IsLeafIn}
use Rattle.vortex_interface.specs.Execution.{LeafFits, LeavesFit, AllLeavesFit}
use Rattle.vortex_interface.specs.Rewrites.{AsksNoMore}

-- the leaves in a call's only argument, and in one of its two
pub in_one : {A : Type 0} → A ⊎ ⊥ → A
in_one (inl a) = a
in_one (inr a) = absurd a

pub in_two : {A B : Type 0} → A ⊎ (B ⊎ ⊥) → A ⊎ B
in_two (inl a) = inl a
in_two (inr b) = inr (in_one b)

-- a column matches each place with a requirement
abbrev EachFits : List ColumnView → (Leaf → Type 0) → Type 0
EachFits cs Says =
    (p : ℕ) (name : List ℕ) (k : LogicalType) → Says (place p name k)
    → LeafFits cs (place p name k)

module _ {V O : Type 0} (cs : List ColumnView) where
  -- each column that matches a tree matches its leaf
  mutual
    leaf_fits : (l : Leaf) (t : Tree V O) → LeavesFit cs t → IsLeafOf l t → LeafFits cs l
    leaf_fits l (leaf k) fit is = subst (LeafFits cs) (sym is) fit
    leaf_fits l (constant s) fit is = absurd is
    leaf_fits l (call f ts) fit is = leaf_in_fits l ts fit is

    leaf_in_fits : (l : Leaf) (ts : Trees V O) → AllLeavesFit cs ts → IsLeafIn l ts
        → LeafFits cs l
    leaf_in_fits l no_trees fit is = absurd is
    leaf_in_fits l (tree t ts) fit (inl here) = leaf_fits l t fit.0 here
    leaf_in_fits l (tree t ts) fit (inr later) = leaf_in_fits l ts fit.1 later

  -- and columns that match each leaf match the tree
  mutual
    each_fits : (t : Tree V O) → EachFits cs (λ l. IsLeafOf l t) → LeavesFit cs t
    each_fits (leaf (place p name k)) h = h p name k refl
    each_fits (leaf (held c)) h = tt
    each_fits (constant s) h = tt
    each_fits (call f ts) h = all_fit ts h

    all_fit : (ts : Trees V O) → EachFits cs (λ l. IsLeafIn l ts) → AllLeavesFit cs ts
    all_fit no_trees h = tt
    all_fit (tree t ts) h = (
      each_fits t (λ p name k is. h p name k (inl is)),
      all_fit ts (λ p name k is. h p name k (inr is)),
    )

  -- columns that match a tree match one that requires no more
  pub leaves_still_fit : (t u : Tree V O) → AsksNoMore t u → LeavesFit cs t → LeavesFit cs u
  leaves_still_fit t u asks fit =
      each_fits u
      (λ p name k is. leaf_fits (place p name k) t fit (asks.leaves p name k is))
