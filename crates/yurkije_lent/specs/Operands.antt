-- One operand of a call: rows that a caller lends, or a column.
use Rattle.std.specs.Prelude.{◌≡◌, ◌<◌, ℕ, Bool, true, List, length, map, Option, Some, slice_get}
use Rattle.vortex_types.specs.LogicalTypes.{LogicalType, is_nullable}
use Rattle.vortex_types.specs.Values.{is_null}
use Rattle.vortex_columns.specs.ColumnView.{ColumnView, row}
use Rattle.vortex_columns.specs.ValidityView.{ValidityView, form_allows_null, is_valid_row, FitsRows}
use Rattle.vortex_operators.specs.declared.operators.CompareOperator.{CompareOperator}
use Rattle.vortex_operators.specs.declared.operators.Operator.{Operator}
use Rattle.vortex_errors.specs.declared.error.NumericOperator.{NumericOperator}
use Rattle.vortex_operators.specs.Arithmetic.{numeric_operator_of}
use Rattle.vortex_operators.specs.Operators.{compare_operator_of}
use Rattle.vortex_interface.specs.Functions.{Function, ours}
use Rattle.vortex_interface.specs.Shipped.{Binary}
use Rattle.vortex_arrow.specs.declared.column.ArrowColumn.{ArrowColumn}
use Rattle.vortex_arrow.specs.Columns.{arrow_column}
use Rattle.yurkije_columns.specs.Batches.{batch_column}
use Rattle.yurkije_lent.specs.declared.operand.Operand.{Operand}
use Rattle.yurkije_lent.specs.declared.operand.Operand.TheVariants as operand

-- the column that it stands for
abbrev pub operand_column : Operand → ColumnView
operand_column (operand.Lent c) = arrow_column c
operand_column (operand.Made c) = c

-- a column of the same length is null where another is, and nullable if it is
pub record HasNullsOf (c d : ColumnView) : Type 0 where
  pub nullable : is_nullable d.dtype ≡ is_nullable c.dtype
  pub count : length d.rows ≡ length c.rows
  pub each : (i : ℕ) → i < length c.rows → is_null (row d.rows i) ≡ is_null (row c.rows i)

-- each row is valid, of a type that has null or not
abbrev pub IsAllValid : Bool → ValidityView → Type 0
IsAllValid nullable v =
    (form_allows_null v.form ≡ nullable) × ((n : ℕ) → FitsRows v n)
    × ((i : ℕ) → is_valid_row v i ≡ true)

-- the column of that type at a place of a batch of n rows
pub record HasLeafRows (n : ℕ) (cs : List (Option ArrowColumn)) (k : ℕ) (t : LogicalType)
    (c : ColumnView) : Type 0 where
  pub there : slice_get (map (batch_column n) cs) k ≡ Some c
  pub dtype : c.dtype ≡ t
  pub count : length c.rows ≡ n

-- the function is this comparison
abbrev pub IsComparison : {V O : Type 0} → CompareOperator → Function V O → Type 0
IsComparison op f = (o : Operator) × (f ≡ ours (Binary o)) × (compare_operator_of o ≡ Some op)

-- and this arithmetic
abbrev pub IsArithmetic : {V O : Type 0} → NumericOperator → Function V O → Type 0
IsArithmetic op f = (o : Operator) × (f ≡ ours (Binary o)) × (numeric_operator_of o ≡ Some op)
