-- When a verdict cannot be better: of conditions that read each column once.
use Rattle.std.specs.Prelude.{◌≡◌, ◌&&◌, ◌||◌, ◌+◌, ◌<◌, ◌⊎◌, ℕ, List, ⊤, Bool, true, false}
use Rattle.std.specs.Prelude.{Option, Some, None, IfSome, nat_eq, slice_get, if◌then◌else◌}
use Rattle.vortex_types.specs.LogicalTypes.{LogicalType}
use Rattle.vortex_types.specs.Values.{truth}
use Rattle.vortex_columns.specs.ColumnView.{ColumnView}
use Rattle.vortex_statistics.specs.StatisticsView.{EndView, StatisticsView, is_attained}
use Rattle.vortex_statistics.specs.StatisticsView.{is_all_null}
use Rattle.vortex_statistics.specs.Extremes.{is_measured}
use Rattle.vortex_interface.specs.Meaning.{Meaning}
use Rattle.vortex_interface.specs.Trees.{place, held, Tree, leaf, constant, call, Trees}
use Rattle.vortex_interface.specs.Trees.{no_trees, tree}
use Rattle.vortex_interface.specs.Eval.{tree_type}
use Rattle.vortex_ranges.specs.Ranges.{RangeView}
use Rattle.vortex_ranges.specs.Described.{DescribeAll}
use Rattle.vortex_pruning.specs.declared.pruned.Verdict.TheVariants.{Unknown}
use Rattle.vortex_pruning.specs.declared.pruned.Pruned.{Pruned}
use Rattle.vortex_pruning.specs.Exact.{IsReached, Gives, IsExact}
use Rattle.vortex_pruning.specs.SharpCalls.{IsSharpCall}

-- the tree reads the column in place p, or one of several does
abbrev mutual
  pub reads : {V O : Type 0} → Tree V O → ℕ → Bool
  reads (leaf (place q name t)) p = nat_eq q p
  reads (leaf (held c)) p = false
  reads (constant s) p = false
  reads (call f ts) p = any_reads ts p

  pub any_reads : {V O : Type 0} → Trees V O → ℕ → Bool
  any_reads no_trees p = false
  any_reads (tree t ts) p = reads t p || any_reads ts p

-- an attained end is the value of a row
abbrev pub rows_taken : Option EndView → ℕ
rows_taken e = if is_attained e then 1 else 0

abbrev pub known_nulls : Option ℕ → ℕ
known_nulls None = 0
known_nulls (Some k) = k

-- of n rows there is one more than the known nulls and the attained ends take; or each is null
abbrev pub HasRoom : ℕ → StatisticsView → Type 0
HasRoom n s =
    (is_all_null (Some n) s.nulls ≡ true)
    ⊎ (known_nulls s.nulls + (rows_taken s.low + rows_taken s.high) < n)

-- Calls of And, Or, Not, comparisons, null tests, BETWEEN and LIKE, as above, over literals and
-- columns of Bool, integers, texts and bytes, whose statistics leave room; and no two arguments of
-- a call read one column.
module _ {V O : Type 0} (n : ℕ) (ss : List StatisticsView) where
  abbrev mutual
    pub IsReadOnce : Tree V O → Type 0
    IsReadOnce (leaf (place p name t)) =
        (is_measured t ≡ true) × IfSome (slice_get ss p) (HasRoom n)
    IsReadOnce (leaf (held c)) = ⊥
    IsReadOnce (constant s) = is_measured s.dtype ≡ true
    IsReadOnce (call f ts) = IsSharpCall ss f ts × AllReadOnce ts

    pub AllReadOnce : Trees V O → Type 0
    AllReadOnce no_trees = ⊤
    AllReadOnce (tree t ts) =
        IsReadOnce t × AllReadOnce ts × ((p : ℕ) → (reads t p && any_reads ts p) ≡ false)

-- the range of a tree is exact, if the tree reads each column once, and the statistics describe any
-- columns with a row
abbrev pub IsExactIfReadOnce : {V O : Type 0} → Meaning V O → ℕ → List StatisticsView → Tree V O
    → RangeView → Type 0
IsExactIfReadOnce m n ss t r =
    IsReadOnce n ss t → 0 < n → (cs : List ColumnView) → DescribeAll n ss cs
    → (k : LogicalType) → tree_type m t ≡ Some k → IsExact m n ss t k r

-- it is said that no row faults; and where nothing else is known, the first row of some described
-- columns is true, and that of some others is not
pub record IsSharp {V O : Type 0} (m : Meaning V O) (n : ℕ) (ss : List StatisticsView)
    (t : Tree V O) (p : Pruned) : Type 0 where
  pub faultless : p.faultless ≡ true
  pub some_true : p.verdict ≡ Unknown → IsReached m n ss t (Gives (truth true))
  pub some_other : p.verdict ≡ Unknown → IsReached m n ss t (λ o. ¬ Gives (truth true) o)

-- so of a condition that reads each column once
abbrev pub IsSharpIfReadOnce : {V O : Type 0} → Meaning V O → ℕ → List StatisticsView → Tree V O
    → Pruned → Type 0
IsSharpIfReadOnce m n ss t p =
    IsReadOnce n ss t → 0 < n → (cs : List ColumnView) → DescribeAll n ss cs → IsSharp m n ss t p
