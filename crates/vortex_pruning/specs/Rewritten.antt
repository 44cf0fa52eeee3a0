-- What a verdict says of the trees that rules make of a condition.
use Rattle.std.specs.Prelude.{◌≡◌, ℕ, List, true}
use Rattle.vortex_columns.specs.ColumnView.{ColumnView}
use Rattle.vortex_statistics.specs.StatisticsView.{StatisticsView}
use Rattle.vortex_interface.specs.Meaning.{Meaning}
use Rattle.vortex_interface.specs.Trees.{Tree}
use Rattle.vortex_interface.specs.Rewrites.{Rewrites}
use Rattle.vortex_ranges.specs.Described.{DescribeAll}
use Rattle.vortex_pruning.specs.declared.pruned.Pruned.{Pruned}
use Rattle.vortex_pruning.specs.Pruning.{Prunes, TellsRows}

-- Where no row of a condition faults, what pruning says of it is so of each rewrite of it. Where a
-- row may fault, it need not be: of `a / b = 1 or true` a row with a zero divisor faults, and a
-- rewrite is true in it.
abbrev pub VerdictsHoldOfRewrites : {V O : Type 0} → Meaning V O → ℕ → List StatisticsView
    → Tree V O → Type 0
VerdictsHoldOfRewrites m n ss t =
    (p : Pruned) → Prunes m n ss t p → p.faultless ≡ true → (u : Tree _ _) → Rewrites m t u
    → (cs : List ColumnView) → DescribeAll n ss cs → TellsRows m cs n u p
