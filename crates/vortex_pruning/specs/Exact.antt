-- Ranges that leave nothing open that no row has.
use Rattle.std.specs.Prelude.{◌≡◌, ℕ, List, Bool, true, false, not, Some, MatchOption}
use Rattle.vortex_types.specs.LogicalTypes.{LogicalType}
use Rattle.vortex_types.specs.Values.{Value, null, is_null}
use Rattle.vortex_types.specs.Typing.{HasType}
use Rattle.vortex_columns.specs.ColumnView.{ColumnView, is_bytes_like}
use Rattle.vortex_operators.specs.Operators.{is_arithmetic}
use Rattle.vortex_statistics.specs.StatisticsView.{StatisticsView}
use Rattle.vortex_statistics.specs.Extremes.{is_measured}
use Rattle.vortex_interface.specs.Outcomes.{Outcome, gives}
use Rattle.vortex_interface.specs.Meaning.{Meaning}
use Rattle.vortex_interface.specs.Shipped.{Binary, Not, NullTest, Between, Like}
use Rattle.vortex_interface.specs.Functions.{Function, ours}
use Rattle.vortex_interface.specs.Trees.{Tree}
use Rattle.vortex_interface.specs.Eval.{eval}
use Rattle.vortex_ranges.specs.Prefixes.{ArePrefixRange}
use Rattle.vortex_ranges.specs.ShippedCalls.{binary_range, not_range, null_test_range}
use Rattle.vortex_ranges.specs.ShippedCalls.{between_range}
use Rattle.vortex_ranges.specs.Ranges.{RangeView, is_over, may_be, anything}
use Rattle.vortex_ranges.specs.Described.{DescribeAll}

-- some columns of n rows that the statistics describe have such an outcome in their first row
pub record IsReached {V O : Type 0} (m : Meaning V O) (n : ℕ) (ss : List StatisticsView)
    (t : Tree V O) (P : Outcome → Type 0) : Type 0 where
  pub columns : List ColumnView
  pub described : DescribeAll n ss columns
  pub here : P (eval m columns t 0)

abbrev pub Gives : Value → Outcome → Type 0
Gives v o = o ≡ gives v

-- a value of the type that is not null
pub record IsValueOf (k : LogicalType) (v : Value) : Type 0 where
  pub typed : HasType k v
  pub valid : is_null v ≡ false

-- ends that are values of the type, in order; only texts and bytes need no high end
pub record HasEnds (k : LogicalType) (r : RangeView) : Type 0 where
  pub low : Value
  pub is_low : r.low ≡ Some low
  pub low_value : IsValueOf k low
  pub low_inside : is_over r.high low ≡ false
  pub high : MatchOption r.high (is_bytes_like k ≡ true) (IsValueOf k)

-- of a tree of that type, which is Bool, integers, texts or bytes: no row faults, and whatever the
-- range does not exclude is reached
pub record IsExact {V O : Type 0} (m : Meaning V O) (n : ℕ) (ss : List StatisticsView)
    (t : Tree V O) (k : LogicalType) (r : RangeView) : Type 0 where
  pub measured : is_measured k ≡ true
  pub faultless : r.may_fault ≡ false
  pub nulls : r.may_be_null ≡ true → IsReached m n ss t (Gives null)
  pub values : (v : Value) → IsValueOf k v → may_be r v ≡ true → IsReached m n ss t (Gives v)
  pub ends : r.may_be_value ≡ true → HasEnds k r

-- And, Or, Not, a comparison or a null test
abbrev pub is_simple : {V O : Type 0} → Function V O → Bool
is_simple (ours (Binary op)) = not (is_arithmetic op)
is_simple (ours Not) = true
is_simple (ours (NullTest negated)) = true
is_simple f = false

-- the range of a simple call, from those of its arguments
abbrev pub simple_range : {V O : Type 0} → Function V O → LogicalType → List RangeView → RangeView
simple_range (ours (Binary op)) k rs = binary_range op k rs
simple_range (ours Not) k rs = not_range rs
simple_range (ours (NullTest negated)) k rs = null_test_range negated rs
simple_range f k rs = anything

-- the range of a call, where that of its function is known: of a simple one, of Between, and of Like
-- with a pattern of a prefix and `%`
abbrev pub IsCallRange : {V O : Type 0} → Function V O → LogicalType → List RangeView
    → RangeView → Type 0
IsCallRange (ours (Between options)) k rs r = r ≡ between_range options rs
IsCallRange (ours (Like options)) k rs r = ArePrefixRange options rs r
IsCallRange f k rs r = is_simple f ≡ true → r ≡ simple_range f k rs
