-- Exact arithmetic of two numbers, and of two values of an integer type.
use Rattle.std.specs.Prelude.{◌+ℤ◌, ◌-ℤ◌, ◌*ℤ◌, ℤ, Option, Some, None, if◌then◌else◌}
use Rattle.vortex_checked.specs.Exact.{quotient, is_outside}
use Rattle.vortex_types.specs.declared.dtype.PType.{PType}
use Rattle.vortex_errors.specs.declared.error.NumericOperator.{NumericOperator}
use Rattle.vortex_errors.specs.declared.error.NumericOperator.TheVariants as numeric
use Rattle.vortex_types.specs.LogicalTypes.{LogicalType, integer_type}
use Rattle.vortex_types.specs.TypeEquality.{ptype_eq}
use Rattle.vortex_types.specs.Typing.{least_of, greatest_of}
use Rattle.vortex_types.specs.Values.{Value, null, number}
use Rattle.vortex_operators.specs.declared.operators.Operator.{Operator}
use Rattle.vortex_operators.specs.declared.operators.Operator.TheVariants.{Add, Sub, Mul, Div}

-- the whole number that is the result: a quotient is truncated toward zero; none for division by
-- zero
abbrev pub exact_result : NumericOperator → ℤ → ℤ → Option ℤ
exact_result numeric.Add a b = Some (a +ℤ b)
exact_result numeric.Sub a b = Some (a -ℤ b)
exact_result numeric.Mul a b = Some (a *ℤ b)
exact_result numeric.Div a b = quotient a b

-- the result, where the type holds it
abbrev pub held : PType → Option ℤ → Option Value
held p None = None
held p (Some z) = if is_outside (least_of p) (greatest_of p) z then None else Some (number z)

-- null where either operand is null, else the exact result; none is a fault: the type does not hold
-- the result
abbrev pub arithmetic_value : NumericOperator → PType → Value → Value → Option Value
arithmetic_value op p (number a) (number b) = held p (exact_result op a b)
arithmetic_value op p v w = Some null

-- the integer type of both sides, which agree apart from nullability
abbrev pub integer_of_both : LogicalType → LogicalType → Option PType
integer_of_both (integer_type p n) (integer_type q m) = if ptype_eq p q then Some p else None
integer_of_both t u = None

-- an operator of arithmetic
abbrev pub numeric_operator_of : Operator → Option NumericOperator
numeric_operator_of Add = Some numeric.Add
numeric_operator_of Sub = Some numeric.Sub
numeric_operator_of Mul = Some numeric.Mul
numeric_operator_of Div = Some numeric.Div
numeric_operator_of o = None
