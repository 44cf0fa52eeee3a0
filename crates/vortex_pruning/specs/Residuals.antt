-- What statistics leave of a tree: a value that they settle is a literal.
use Rattle.std.specs.Prelude.{◌≡◌, ◌||◌, ℕ, ◌<◌, List, Option, Some, None, if◌then◌else◌}
use Rattle.std.specs.Prelude.{IsUtf8}
use Rattle.vortex_types.specs.LogicalTypes.{LogicalType}
use Rattle.vortex_types.specs.Values.{Value, null, text}
use Rattle.vortex_types.specs.Typing.{HasType}
use Rattle.vortex_columns.specs.ColumnView.{ColumnView}
use Rattle.vortex_statistics.specs.StatisticsView.{StatisticsView}
use Rattle.vortex_interface.specs.Meaning.{Meaning}
use Rattle.vortex_interface.specs.Trees.{Tree, constant}
use Rattle.vortex_interface.specs.Eval.{eval, tree_type}
use Rattle.vortex_ranges.specs.Ranges.{RangeView, is_above}
use Rattle.vortex_ranges.specs.BoundViews.{range_of}
use Rattle.vortex_ranges.specs.Described.{DescribeAll}
use Rattle.vortex_pruning.specs.Knowing.{AreTold, Knows}
use Rattle.vortex_pruning.specs.declared.residuals.ResidualTree.{ResidualTree}

-- both ends, if they are one value
abbrev pub sole_between : Option Value → Option Value → Option Value
sole_between (Some low) (Some high) =
    if is_above low high || is_above high low then None else Some low
sole_between low high = None

-- the only outcome that a range admits, if its flags and its ends show one
abbrev pub sole_value : RangeView → Option Value
sole_value r =
    if r.may_fault then None
    else (if r.may_be_value then (if r.may_be_null then None else sole_between r.low r.high)
    else (if r.may_be_null then Some null else None))

-- bytes that were to be a text, and are not UTF-8
abbrev pub IsNoText : Value → Type 0
IsNoText (text bs) = ¬ IsUtf8 bs
IsNoText v = ⊥

-- the range leaves one outcome, which has that type
abbrev pub IsSettledTo : LogicalType → RangeView → Value → Type 0
IsSettledTo k r v = (sole_value r ≡ Some v) × HasType k v

-- Of all columns of n rows that the statistics describe, what is left has in each row the outcome
-- of the tree, faults among them. It has the tree's type, and its leaves have statistics. Where
-- its range leaves one outcome, it is a literal.
pub record Leaves {V O : Type 0} (m : Meaning V O) (n : ℕ) (ss : List StatisticsView)
    (t u : Tree V O) (r : RangeView) : Type 0 where
  pub known : Knows m n ss t r
  pub dtype : tree_type m u ≡ tree_type m t
  pub told : AreTold ss u
  pub rows : (cs : List ColumnView) → DescribeAll n ss cs → (i : ℕ) → i < n
      → eval m cs u i ≡ eval m cs t i
  pub settled : (k : LogicalType) (v : Value) → tree_type m t ≡ Some k → IsSettledTo k r v
      → u ≡ constant (record { dtype = k; value = v })

abbrev pub IsResidual : {V O : Type 0} → Meaning V O → ℕ → List StatisticsView → Tree V O
    → ResidualTree (Tree V O) → Type 0
IsResidual m n ss t r = Leaves m n ss t r.tree (range_of r.range)
