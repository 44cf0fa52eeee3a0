-- The results of encoded columns, their kernels and the adaptors.
use Rattle.std.specs.Prelude.{◌≡◌, ℕ, zero, suc, ◌||◌, ◌&&◌, Bool, true, false, not, length, nat_eq}
use Rattle.std.specs.Prelude.{nat_le, Option, Some, None, MatchOption}
use Rattle.vortex_types.specs.LogicalTypes.{bool_type}
use Rattle.vortex_types.specs.ScalarView.{ScalarView}
use Rattle.vortex_types.specs.TypeEquality.{alike_types}
use Rattle.vortex_types.specs.Values.{is_null}
use Rattle.vortex_columns.specs.ColumnView.{ColumnView, row}
use Rattle.vortex_operators.specs.declared.operators.CompareOperator.{CompareOperator}
use Rattle.vortex_operators.specs.declared.operators.Operator.{Operator}
use Rattle.vortex_operators.specs.Operators.{is_boolean, compare_operator_of, compare_swap}
use Rattle.vortex_kernels.specs.Comparison.{AnswersCompare, is_null_constant}
use Rattle.vortex_kernels.specs.Rows.{HasRows}

-- a column of the same type and rows
pub record IsDecoded (c d : ColumnView) : Type 0 where
  pub dtype : d.dtype ≡ c.dtype
  pub rows : d.rows ≡ c.rows

-- a column with P, exactly if the condition is met
abbrev pub GivesWhere : Bool → (ColumnView → Type 0) → Option ColumnView → Type 0
GivesWhere b P o = MatchOption o (b ≡ false) (λ c. (b ≡ true) × P c)

-- a relation of the two sides of a call in their order, where the encoded column is the child of
-- that index
abbrev pub InOrder : ℕ → (ColumnView → ColumnView → ColumnView → Type 0) → ColumnView → ColumnView
    → ColumnView → Type 0
InOrder zero R c other = R c other
InOrder (suc k) R c other = R other c

-- a constant column whose value is not null
abbrev pub is_value_scalar : Option ScalarView → Bool
is_value_scalar None = false
is_value_scalar (Some s) = not (is_null s.value)

abbrev pub is_value_constant : ColumnView → Bool
is_value_constant c = is_value_scalar c.constant

-- the rows of a column, as Bool of that nullability
abbrev pub HasRowsAs : Bool → ColumnView → ColumnView → Type 0
HasRowsAs n c = HasRows (bool_type n) (length c.rows) (λ i. row c.rows i)

-- where And and Or return a column: for a constant that is not null, or where the kernel does
abbrev pub boolean_answers : (ColumnView → Operator → Bool) → Operator → ColumnView → ℕ → Bool
boolean_answers kernel op other k =
    (is_boolean op && nat_le k 1) && (is_value_constant other || kernel other op)

-- decided without the encoded column's rows: there are none, or the other side is a null constant
abbrev pub is_settled_beside : ColumnView → Bool
is_settled_beside other = nat_eq (length other.rows) 0 || is_null_constant other

-- types that agree apart from nullability, unless the result is decided without them
abbrev pub are_accepted : ColumnView → ColumnView → Bool
are_accepted c other = is_settled_beside other || alike_types c.dtype other.dtype

-- the comparison for the kernel, whose column is on the left
abbrev pub asked : ℕ → CompareOperator → CompareOperator
asked zero op = op
asked (suc k) op = compare_swap op

-- where a comparison returns a column: where it is decided, or where the kernel does
abbrev pub comparison_answers : (ColumnView → CompareOperator → Bool) → Option CompareOperator
    → ColumnView → ℕ → Bool
comparison_answers kernel None other k = false
comparison_answers kernel (Some op) other k =
    nat_le k 1 && (is_settled_beside other || kernel other (asked k op))

abbrev pub compare_answers : (ColumnView → CompareOperator → Bool) → Operator → ColumnView → ℕ
    → Bool
compare_answers kernel op = comparison_answers kernel (compare_operator_of op)

-- the comparison's result for the two sides in their order; none for other operators
abbrev pub AnswersComparison : Operator → ℕ → ColumnView → ColumnView → ColumnView → Type 0
AnswersComparison op k c other d =
    MatchOption (compare_operator_of op) ⊥ (λ o. InOrder k (AnswersCompare o) c other d)
