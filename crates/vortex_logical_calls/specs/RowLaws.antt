-- What the rows of calls on values of kinds mean, by what the rows of the operands mean that they
-- become next to each other.
use Rattle.std.specs.Prelude.{◌≡◌, ◌≤◌, ℤ, Some, Bool, true, false, is_some}
use Rattle.vortex_errors.specs.declared.error.NumericOperator.{NumericOperator}
use Rattle.vortex_errors.specs.declared.error.NumericOperator.TheVariants.{Add, Sub, Div}
use Rattle.vortex_types.specs.declared.dtype.PType.{PType}
use Rattle.vortex_types.specs.declared.dtype.PType.TheVariants.{I64}
use Rattle.vortex_columns.specs.ScalarOf.{int_scalar}
use Rattle.vortex_interface.specs.Trees.{constant}
use Rattle.vortex_operators.specs.declared.between.BetweenOptions.{BetweenOptions}
use Rattle.vortex_operators.specs.declared.operators.CompareOperator.{CompareOperator}
use Rattle.vortex_logical.specs.declared.kind.Kind.TheVariants.{Decimal, Timestamp}
use Rattle.vortex_logical.specs.declared.operand.Operand.{Operand}
use Rattle.vortex_logical.specs.declared.operand.Operand.TheVariants.{Whole, Of}
use Rattle.vortex_logical.specs.CommonKinds.{common_operand}
use Rattle.vortex_standard.specs.Scales as scales
use Rattle.vortex_lowering.specs.Operands.{scale_of}
use Rattle.vortex_lowering.specs.Rows.{lowered, IsTyped}
use Rattle.vortex_lowering.specs.Aligning.{Aligns}
use Rattle.vortex_lowering.specs.Comparing.{Compares}
use Rattle.vortex_lowering.specs.Bounding.{Bounds}
use Rattle.vortex_lowering.specs.Computing.{Computes}
use Rattle.vortex_logical_calls.specs.Outcomes.{made}
use Rattle.vortex_logical_calls.specs.Calls.{Tree, Lowered, meaning}
use Rattle.vortex_logical_calls.specs.Conversions.{conversion_beside, conversion_by_two, converted}
use Rattle.vortex_logical_calls.specs.Alignment.{aligned}
use Rattle.vortex_logical_calls.specs.Comparison.{compared}
use Rattle.vortex_logical_calls.specs.Bounds.{between}
use Rattle.vortex_logical_calls.specs.Computation.{computed, goes_by_floats}
use Rattle.vortex_logical_calls.specs.Intervals.{moved_by, shifted, elapsed}
use Rattle.vortex_logical_calls.specs.Spans.{spans_computed, instant, moved_instant}

-- a is what x becomes next to y
abbrev pub IsBeside : Lowered → Lowered → Lowered → Type 0
IsBeside y x a = converted (conversion_beside x.operand y.operand) x ≡ made a

-- a is what x becomes next to y and z
abbrev pub IsBetween : Lowered → Lowered → Lowered → Lowered → Type 0
IsBetween y z x a = converted (conversion_by_two x.operand y.operand z.operand) x ≡ made a

-- a comparison is true in a row by the order of what its operands mean
pub record ComparedRows (op : CompareOperator) (x y : Lowered) (t : Tree) : Type 0 where
  pub a : Lowered
  pub b : Lowered
  pub left : IsBeside y x a
  pub right : IsBeside x y b
  pub rows : Compares meaning op a b t

abbrev pub ComparisonsGoByOrder : Type 0
ComparisonsGoByOrder =
    (op : CompareOperator) (x y : Lowered) (t : Tree) → compared op x y ≡ made t
    → ComparedRows op x y t

-- so is a BETWEEN
pub record BoundedRows (o : BetweenOptions) (x low high : Lowered) (t : Tree) : Type 0 where
  pub a : Lowered
  pub b : Lowered
  pub c : Lowered
  pub operand : IsBetween low high x a
  pub lower : IsBetween x high low b
  pub upper : IsBetween x low high c
  pub rows : Bounds meaning o a b c t

abbrev pub BoundsGoByOrder : Type 0
BoundsGoByOrder =
    (o : BetweenOptions) (x low high : Lowered) (t : Tree) → between o x low high ≡ made t
    → BoundedRows o x low high t

-- what does not go by floats means the sum, the difference or the product of what the operands mean
pub record ComputedRows (o : NumericOperator) (x y z : Lowered) : Type 0 where
  pub a : Lowered
  pub b : Lowered
  pub left : IsBeside y x a
  pub right : IsBeside x y b
  pub rows : IsTyped meaning a → IsTyped meaning b → Computes meaning o a b z

abbrev pub ComputationsAreExact : Type 0
ComputationsAreExact =
    (o : NumericOperator) (x y z : Lowered) → goes_by_floats o x.operand y.operand ≡ false
    → computed o x y ≡ made z → ComputedRows o x y z

-- the operand meets the common kind in that kind
abbrev pub IsWithin : Operand → Operand → Type 0
IsWithin common a = common_operand a common ≡ Some common

-- a decimal has at most 18 digits after the point
abbrev pub has_scale : Operand → Bool
has_scale (Of (Decimal d)) = is_some (scales.scale_of d.scale)
has_scale a = true

-- a value in the common kind means what it becomes next to a value of that kind
pub record AlignedRows (common : Operand) (x : Lowered) (t : Tree) : Type 0 where
  pub a : Lowered
  pub beside : converted (conversion_beside x.operand common) x ≡ made a
  pub scale : scale_of a.operand ≤ scale_of common
  pub rows : Aligns meaning common a t

abbrev pub ValuesAreAligned : Type 0
ValuesAreAligned =
    (common : Operand) (x : Lowered) (t : Tree) → has_scale x.operand ≡ true
    → IsWithin common x.operand → aligned common x ≡ made t → AlignedRows common x t

-- where several values meet from left to right, each of them meets the last kind in that kind
pub record KindsMeet : Type 0 where
  pub left : (a b c : Operand) → common_operand a b ≡ Some c → IsWithin c a
  pub right : (a b c : Operand) → common_operand a b ≡ Some c → IsWithin c b
  pub on : (a b c : Operand) → IsWithin b a → IsWithin c b → IsWithin c a

-- stored integers as whole numbers: the microseconds of timestamps and the days of dates since 1970
abbrev pub as_whole : PType → Tree → Lowered
as_whole p t = lowered t (Whole p)

abbrev pub is_sum : NumericOperator → Bool
is_sum Add = true
is_sum Sub = true
is_sum o = false

-- a date or a timestamp moved by an interval: the sum or the difference of its days or microseconds
-- since 1970 and those of the interval, in the same kind
pub record ShiftedRows (o : NumericOperator) (x : Lowered) (z : ℤ) (w : Lowered) : Type 0 where
  pub ptype : PType
  pub count : ℤ
  pub by : moved_by x.operand z ≡ Some (int_scalar ptype count)
  pub kind : w.operand ≡ x.operand
  pub rows : IsTyped meaning (as_whole ptype x.tree)
      → Computes meaning o (as_whole ptype x.tree)
      (as_whole ptype (constant (int_scalar ptype count))) (as_whole ptype w.tree)

abbrev pub IntervalsMove : Type 0
IntervalsMove =
    (o : NumericOperator) (x w : Lowered) (z : ℤ) → is_sum o ≡ true → shifted o x z ≡ made w
    → ShiftedRows o x z w

-- the microseconds from one instant to another: the difference of those since 1970
pub record ElapsedRows (x y : Lowered) (t : Tree) : Type 0 where
  pub a : Lowered
  pub b : Lowered
  pub left : IsBeside y x a
  pub right : IsBeside x y b
  pub rows : IsTyped meaning (as_whole I64 a.tree) → IsTyped meaning (as_whole I64 b.tree)
      → Computes meaning Sub (as_whole I64 a.tree) (as_whole I64 b.tree) (as_whole I64 t)

abbrev pub InstantsElapse : Type 0
InstantsElapse = (x y : Lowered) (t : Tree) → elapsed x y ≡ made t → ElapsedRows x y t

abbrev pub is_quotient : NumericOperator → Bool
is_quotient Div = true
is_quotient o = false

-- lengths in microseconds and counts, computed as whole numbers
abbrev pub SpanRows : NumericOperator → Tree → Tree → Tree → Type 0
SpanRows o t u v =
    IsTyped meaning (as_whole I64 t) → IsTyped meaning (as_whole I64 u)
    → Computes meaning o (as_whole I64 t) (as_whole I64 u) (as_whole I64 v)

abbrev pub SpansCompute : Type 0
SpansCompute =
    (o : NumericOperator) (t u v : Tree) → is_quotient o ≡ false → spans_computed o t u ≡ made v
    → SpanRows o t u v

-- an instant moved by microseconds: the sum or the difference of those since 1970 and these
pub record MovedInstantRows (o : NumericOperator) (x : Lowered) (t : Tree) (w : Lowered) : Type 0 where
  pub a : Lowered
  pub value : instant x ≡ made a
  pub kind : w.operand ≡ Of Timestamp
  pub rows : SpanRows o a.tree t w.tree

abbrev pub InstantsMove : Type 0
InstantsMove =
    (o : NumericOperator) (x w : Lowered) (t : Tree) → is_sum o ≡ true
    → moved_instant o x t ≡ made w → MovedInstantRows o x t w
