-- Columns that statistics describe: their lengths, their types, and what leaves read of them.
use Rattle.std.specs.Prelude.{◌≡◌, ℕ, zero, suc, List, [], ◌∷◌, All, Some, None, map}
use Rattle.std.specs.Prelude.{length, slice_get, nat_eq, if◌then◌else◌, refl}
use Rattle.std.proofs.Common.{arith, sym, ap, ◌∙◌, subst, true}
use Rattle.vortex_types.specs.LogicalTypes.{LogicalType}
use Rattle.vortex_columns.specs.ColumnView.{ColumnView, AreTyped}
use Rattle.vortex_statistics.specs.StatisticsView.{StatisticsView}
use Rattle.vortex_interface.specs.Trees.{Leaf, place, held, Tree, leaf, constant, call, Trees}
use Rattle.vortex_interface.specs.Trees.{no_trees, tree}
use Rattle.vortex_interface.specs.Execution.{LeafFits, LeavesFit, AllLeavesFit, other_length}
use Rattle.vortex_ranges.specs.Described.{IsDescribed, DescribeAll}
use Rattle.vortex_pruning.specs.Knowing.{typed_column}

module _ (n : ℕ) where
  same_count : (k : ℕ) → k ≡ n → nat_eq k n ≡ true
  same_count k e = grind (arith, e)

  pub described_lengths : (ss : List StatisticsView) (cs : List ColumnView) → DescribeAll n ss cs
      → other_length n cs ≡ None
  described_lengths [] [] d = refl
  described_lengths [] (c ∷ cs) d = absurd d
  described_lengths (s ∷ ss) [] d = absurd d
  described_lengths (s ∷ ss) (c ∷ cs) d =
      ap (λ b. if b then other_length n cs else Some (length c.rows))
      (same_count (length c.rows) d.0.count)
      ∙ described_lengths ss cs d.1

  one_typed : (s : StatisticsView) (c : ColumnView) → IsDescribed n s c → AreTyped c.dtype c.rows
  one_typed s c d =
      subst (λ (t : LogicalType). AreTyped t c.rows) (sym d.dtype) d.rows.typed

  and_rest : (c : ColumnView) (cs : List ColumnView) → AreTyped c.dtype c.rows
      → All (λ c. AreTyped c.dtype c.rows) cs → All (λ c. AreTyped c.dtype c.rows) (c ∷ cs)
  and_rest c cs one rest zero e h = one
  and_rest c cs one rest (suc k) e h = rest k e (omega (arith, h))

  pub described_typed : (ss : List StatisticsView) (cs : List ColumnView) → DescribeAll n ss cs
      → All (λ c. AreTyped c.dtype c.rows) cs
  described_typed [] [] d = λ k c h. absurd (omega (arith, h))
  described_typed [] (c ∷ cs) d = absurd d
  described_typed (s ∷ ss) [] d = absurd d
  described_typed (s ∷ ss) (c ∷ cs) d = and_rest c cs (one_typed s c d.0) (described_typed ss cs d.1)

  -- the column of statistics, and the statistics of a column's type
  pub described_column : (ss : List StatisticsView) (cs : List ColumnView) (p : ℕ)
      (s : StatisticsView) → DescribeAll n ss cs → slice_get ss p ≡ Some s
      → (c : ColumnView) × (slice_get cs p ≡ Some c) × IsDescribed n s c
  described_column [] cs p s d e = cc
  described_column (x ∷ ss) [] p s d e = absurd d
  described_column (x ∷ ss) (c ∷ cs) zero s d e =
      let is : x ≡ s = cc in
      (c, refl, subst (λ (y : StatisticsView). IsDescribed n y c) is d.0)
  described_column (x ∷ ss) (c ∷ cs) (suc p) s d e = described_column ss cs p s d.1 e

  told_at : (ss : List StatisticsView) (cs : List ColumnView) (p : ℕ) (x : ColumnView)
      → DescribeAll n ss cs → slice_get (map typed_column ss) p ≡ Some x
      → (c : ColumnView) × (slice_get cs p ≡ Some c) × (c.dtype ≡ x.dtype)
  told_at [] cs p x d e = cc
  told_at (s ∷ ss) [] p x d e = absurd d
  told_at (s ∷ ss) (c ∷ cs) zero x d e =
      let is : typed_column s ≡ x = cc in
      (c, refl, d.0.dtype ∙ ap (λ (y : ColumnView). y.dtype) is)
  told_at (s ∷ ss) (c ∷ cs) (suc p) x d e = told_at ss cs p x d.1 e

  leaf_fits : (ss : List StatisticsView) (cs : List ColumnView) → DescribeAll n ss cs → (l : Leaf)
      → LeafFits (map typed_column ss) l → LeafFits cs l
  leaf_fits ss cs d (place p name t) h =
      let a = told_at ss cs p h.0 d h.1 in (a.0, a.1, a.2 ∙ h.2)
  leaf_fits ss cs d (held c) h = h

  -- described columns match the leaves that have statistics
  module _ {V O : Type 0} (ss : List StatisticsView) (cs : List ColumnView)
      (d : DescribeAll n ss cs) where
    mutual
      pub described_fit : (t : Tree V O) → LeavesFit (map typed_column ss) t → LeavesFit cs t
      described_fit (leaf l) h = leaf_fits ss cs d l h
      described_fit (constant s) h = h
      described_fit (call f ts) h = all_described_fit ts h

      pub all_described_fit : (ts : Trees V O) → AllLeavesFit (map typed_column ss) ts
          → AllLeavesFit cs ts
      all_described_fit no_trees h = h
      all_described_fit (tree t ts) h = (described_fit t h.0, all_described_fit ts h.1)
