-- What statistics of columns say of a tree over every row that they describe.
use Rattle.std.specs.Prelude.{◌≡◌, ◌||◌, ℕ, ◌<◌, List, [], Some, None, map, Result, slice_get, Bool}
use Rattle.std.specs.Prelude.{⊤}
use Rattle.vortex_errors.specs.Answers.{Answers}
use Rattle.vortex_errors.specs.declared.error.VortexError.{VortexError}
use Rattle.vortex_errors.specs.declared.error.VortexError.TheVariants.{ScopeMismatch}
use Rattle.vortex_types.specs.LogicalTypes.{LogicalType}
use Rattle.vortex_columns.specs.ColumnView.{ColumnView}
use Rattle.vortex_columns.specs.ValidityView.{all_valid}
use Rattle.vortex_statistics.specs.StatisticsView.{StatisticsView}
use Rattle.vortex_interface.specs.Meaning.{Meaning}
use Rattle.vortex_interface.specs.Trees.{place, Tree, leaf, constant}
use Rattle.vortex_interface.specs.Eval.{eval}
use Rattle.vortex_interface.specs.Execution.{LeavesFit}
use Rattle.vortex_ranges.specs.declared.range.Range.{Range}
use Rattle.vortex_ranges.specs.BoundViews.{range_of}
use Rattle.vortex_ranges.specs.Ranges.{RangeView}
use Rattle.vortex_ranges.specs.Calls.{AdmitsOutcome}
use Rattle.vortex_ranges.specs.Described.{DescribeAll, described, literal_range}
use Rattle.vortex_pruning.specs.Sharpness.{IsExactIfReadOnce}

-- a column of the statistics' type, without rows
abbrev pub typed_column : StatisticsView → ColumnView
typed_column s = record { dtype = s.dtype; rows = []; constant = None; form = all_valid }

-- each leaf has statistics in its place, of its type
abbrev pub AreTold : {V O : Type 0} → List StatisticsView → Tree V O → Type 0
AreTold ss t = LeavesFit (map typed_column ss) t

-- the range of a column is what its statistics say, and that of a literal is its value
abbrev pub IsLeafRange : {V O : Type 0} → ℕ → List StatisticsView → Tree V O → RangeView → Type 0
IsLeafRange n ss (leaf (place p name t)) r =
    (s : StatisticsView) × (slice_get ss p ≡ Some s) × (r ≡ described n s)
IsLeafRange n ss (constant s) r = r ≡ literal_range s.value
IsLeafRange n ss t r = ⊤

-- each leaf has statistics, and of all columns of n rows that they describe, the range admits the
-- outcome of the tree in each row; and nothing more, if the tree reads each column once
pub record Knows {V O : Type 0} (m : Meaning V O) (n : ℕ) (ss : List StatisticsView) (t : Tree V O)
    (r : RangeView) : Type 0 where
  pub told : AreTold ss t
  pub admitted : (cs : List ColumnView) → DescribeAll n ss cs → (i : ℕ) → i < n
      → AdmitsOutcome r (eval m cs t i)
  pub exact : IsExactIfReadOnce m n ss t r
  pub own : IsLeafRange n ss t r

-- the same range, of what may fault if that is so
abbrev pub with_faults : Bool → RangeView → RangeView
with_faults faulty r = record {
  may_fault = faulty || r.may_fault;
  may_be_null = r.may_be_null;
  may_be_value = r.may_be_value;
  low = r.low;
  high = r.high;
}

-- some leaf has no statistics in its place, or some of another type
abbrev pub RefusesLeaves : {V O : Type 0} → List StatisticsView → Tree V O → VortexError → Type 0
RefusesLeaves ss t e = (e ≡ ScopeMismatch) × (¬ AreTold ss t)

-- the range of a tree, or that refusal
abbrev pub AnswersRange : {V O : Type 0} → Meaning V O → ℕ → List StatisticsView → Tree V O
    → Result Range VortexError → Type 0
AnswersRange m n ss t result =
    Answers result (λ r. Knows m n ss t (range_of r)) (RefusesLeaves ss t)

-- statistics of that type, in that place
abbrev pub HasStatistics : List StatisticsView → ℕ → LogicalType → Type 0
HasStatistics ss p t =
    (s : StatisticsView) × (slice_get ss p ≡ Some s) × (s.dtype ≡ t)
