-- What pruning answers of a condition.
use Rattle.std.specs.Prelude.{◌≡◌, ◌||◌, ◌+◌, ◌≤◌, ℕ, zero, suc, ◌<◌, List, ⊤, Bool, true, false, not}
use Rattle.std.specs.Prelude.{Some, if◌then◌else◌}
use Rattle.vortex_errors.specs.declared.error.VortexError.{VortexError}
use Rattle.vortex_errors.specs.declared.error.VortexError.TheVariants.{ScopeMismatch, TypeMismatch}
use Rattle.vortex_errors.specs.declared.error.MismatchPlace.TheVariants as place
use Rattle.vortex_types.specs.LogicalTypes.{LogicalType, is_bool_type}
use Rattle.vortex_types.specs.Values.{truth}
use Rattle.vortex_columns.specs.ColumnView.{ColumnView}
use Rattle.vortex_statistics.specs.StatisticsView.{StatisticsView}
use Rattle.vortex_interface.specs.Outcomes.{Outcome, gives}
use Rattle.vortex_interface.specs.Meaning.{Meaning}
use Rattle.vortex_interface.specs.Trees.{Tree}
use Rattle.vortex_interface.specs.Eval.{eval, tree_type, Settled}
use Rattle.vortex_ranges.specs.Ranges.{RangeView}
use Rattle.vortex_ranges.specs.Truths.{may_be_true, may_be_false, may_be_unknown}
use Rattle.vortex_ranges.specs.Described.{DescribeAll}
use Rattle.vortex_pruning.specs.declared.pruned.Verdict.{Verdict}
use Rattle.vortex_pruning.specs.declared.pruned.Verdict.TheVariants.{Unknown, NoneTrue, AllTrue}
use Rattle.vortex_pruning.specs.declared.pruned.Pruned.{Pruned}
use Rattle.vortex_pruning.specs.Knowing.{AreTold}
use Rattle.vortex_pruning.specs.Sharpness.{IsSharpIfReadOnce}

abbrev pub IsTrueOutcome : Outcome → Type 0
IsTrueOutcome o = o ≡ gives (truth true)

-- what a verdict says of the outcome of a row
abbrev pub SaysOf : Verdict → Outcome → Type 0
SaysOf Unknown o = ⊤
SaysOf NoneTrue o = ¬ IsTrueOutcome o
SaysOf AllTrue o = IsTrueOutcome o

abbrev pub is_true : Outcome → Bool
is_true (gives (truth b)) = b
is_true o = false

-- how many of the first n outcomes are true
abbrev pub true_count : ℕ → (ℕ → Outcome) → ℕ
true_count zero outcome = 0
true_count (suc n) outcome = (if is_true (outcome n) then 1 else 0) + true_count n outcome

-- of n rows of columns: the verdict is right in each row, no row faults where that is said, and the
-- true rows are as many as is said
pub record TellsRows {V O : Type 0} (m : Meaning V O) (cs : List ColumnView) (n : ℕ) (t : Tree V O)
    (p : Pruned) : Type 0 where
  pub rows : (i : ℕ) → i < n → SaysOf p.verdict (eval m cs t i)
  pub faultless : p.faultless ≡ true → Settled m cs n t
  pub least : p.trues.0 ≤ true_count n (eval m cs t)
  pub most : true_count n (eval m cs t) ≤ p.trues.1

-- the tree is a condition, each leaf has statistics, and what is told is so of all columns of n
-- rows that they describe; no more can be told, if the tree reads each column once
pub record Prunes {V O : Type 0} (m : Meaning V O) (n : ℕ) (ss : List StatisticsView)
    (t : Tree V O) (p : Pruned) : Type 0 where
  pub told : AreTold ss t
  pub dtype : LogicalType
  pub typed : tree_type m t ≡ Some dtype
  pub condition : is_bool_type dtype ≡ true
  pub tells : (cs : List ColumnView) → DescribeAll n ss cs → TellsRows m cs n t p
  pub sharp : IsSharpIfReadOnce m n ss t p

-- first a leaf without statistics in its place, or with some of another type; then a tree that is
-- no condition
pub data RefusesPruning {V O : Type 0} (m : Meaning V O) (ss : List StatisticsView) (t : Tree V O)
    (e : VortexError) : Type 0 where
  untold : ¬ AreTold ss t → e ≡ ScopeMismatch → RefusesPruning m ss t e
  uncondition : (dtype : LogicalType) → AreTold ss t → tree_type m t ≡ Some dtype
      → is_bool_type dtype ≡ false → e ≡ TypeMismatch place.Boolean → RefusesPruning m ss t e

-- what the range of a condition says
abbrev pub may_be_untrue : RangeView → Bool
may_be_untrue r = r.may_fault || (may_be_unknown r || may_be_false r)

abbrev pub verdict_of : RangeView → Verdict
verdict_of r = if may_be_true r then (if may_be_untrue r then Unknown else AllTrue) else NoneTrue

abbrev pub trues_of : Verdict → ℕ → ℕ × ℕ
trues_of Unknown n = (0, n)
trues_of NoneTrue n = (0, 0)
trues_of AllTrue n = (n, n)

abbrev pub pruned_of : ℕ → RangeView → Pruned
pruned_of n r =
    record {
      verdict = verdict_of r;
      faultless = not r.may_fault;
      trues = trues_of (verdict_of r) n;
    }
