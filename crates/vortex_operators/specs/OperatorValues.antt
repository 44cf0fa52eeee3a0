-- Operators on two values: And, Or and Not by Kleene's tables, comparisons by the order of values.
use Rattle.std.specs.Prelude.{◌||◌, Bool, Option, Some, None, if◌then◌else◌}
use Rattle.std.specs.declared.cmp.Ordering.{Ordering}
use Rattle.std.specs.Ordering.{is_eq, is_ne, is_lt, is_le, is_gt, is_ge}
use Rattle.vortex_types.specs.LogicalTypes.{LogicalType, bool_type, is_nullable}
use Rattle.vortex_types.specs.Values.{Value, null, truth, is_null, truth_of, truth_or_null}
use Rattle.vortex_types.specs.Order.{compare_values}
use Rattle.vortex_operators.specs.declared.operators.Operator.{Operator}
use Rattle.vortex_operators.specs.declared.operators.CompareOperator.{CompareOperator}
use Rattle.vortex_operators.specs.declared.operators.CompareOperator.TheVariants.{Eq, NotEq, Gt}
use Rattle.vortex_operators.specs.declared.operators.CompareOperator.TheVariants.{Gte, Lt, Lte}
use Rattle.vortex_operators.specs.Operators.{compare_operator_of}
use Rattle.vortex_operators.specs.Kleene.{kleene, kleene_not}

abbrev pub boolean_value : Operator → Value → Value → Value
boolean_value op v w = truth_or_null (kleene op (truth_of v) (truth_of w))

abbrev pub not_value : Value → Value
not_value v = truth_or_null (kleene_not (truth_of v))

-- the orders of left and right for which the comparison is true
abbrev pub holds : CompareOperator → Ordering → Bool
holds Eq = is_eq
holds NotEq = is_ne
holds Gt = is_gt
holds Gte = is_ge
holds Lt = is_lt
holds Lte = is_le

-- null exactly where a top value is null; a null within a value is an ordinary value
abbrev pub comparison_value : CompareOperator → Value → Value → Value
comparison_value op v w =
    if is_null v || is_null w then null else truth (holds op (compare_values v w))

-- Bool, nullable if either side is
abbrev pub comparison_type : LogicalType → LogicalType → LogicalType
comparison_type t u = bool_type (is_nullable t || is_nullable u)

-- Kleene's table of And and Or, and the order of values for a comparison
abbrev pub value_by : Option CompareOperator → Operator → Value → Value → Value
value_by None op = boolean_value op
value_by (Some compare) op = comparison_value compare

abbrev pub operator_value : Operator → Value → Value → Value
operator_value op = value_by (compare_operator_of op) op
