-- Sums, differences, products and quotients of operands.
use Rattle.std.specs.Prelude.{◌&&◌, ◌||◌, Option, Some, None, Bool, true, false, if◌then◌else◌}
use Rattle.vortex_errors.specs.declared.error.NumericOperator.{NumericOperator}
use Rattle.vortex_errors.specs.declared.error.NumericOperator.TheVariants as numeric
use Rattle.vortex_logical.specs.declared.kind.Kind.TheVariants.{Decimal, F64}
use Rattle.vortex_logical.specs.declared.operand.Operand.{Operand}
use Rattle.vortex_logical.specs.declared.operand.Operand.TheVariants.{Whole, Of}
use Rattle.vortex_sql_floats.specs.declared.floats.FloatOperator.{FloatOperator}
use Rattle.vortex_sql_floats.specs.declared.floats.FloatOperator.TheVariants as float
use Rattle.vortex_standard.specs.declared.standard.Standard.TheVariants as standard
use Rattle.vortex_lowering.specs.declared.refusal.Refusal.TheVariants.{NoCommonKind, NotShipped}
use Rattle.vortex_lowering.specs.Rows.{lowered}
use Rattle.vortex_lowering.specs.Results.{result_operand, are_computed}
use Rattle.vortex_lowering.specs.LoweredTrees.{computed_tree}
use Rattle.vortex_logical_calls.specs.Outcomes.{Outcome, made, refused, and_then}
use Rattle.vortex_logical_calls.specs.Calls.{Lowered, Tree, typed, call_two}
use Rattle.vortex_logical_calls.specs.Conversions.{meet_in_float, conversion_beside, converted, as_float}

abbrev pub float_operator : NumericOperator → FloatOperator
float_operator numeric.Add = float.Add
float_operator numeric.Sub = float.Subtract
float_operator numeric.Mul = float.Multiply
float_operator numeric.Div = float.Divide

-- a tree whose values are of a kind
abbrev pub of_operand : Operand → Outcome Tree → Outcome Lowered
of_operand a o = and_then o (λ t. made (lowered t a))

abbrev pub compute_floats : NumericOperator → Lowered → Lowered → Outcome Lowered
compute_floats o x y =
    and_then (as_float x) (λ a. and_then (as_float y) (λ b.
    of_operand (Of F64) (call_two (standard.FloatOperator (float_operator o)) a.tree b.tree)))

-- a result of a kind, which shipped functions compute if the flag is true
abbrev pub of_result : Bool → Lowered → Lowered → Option Operand → Outcome Tree → Outcome Lowered
of_result b x y None o = refused (NoCommonKind x.operand y.operand)
of_result b x y (Some a) o =
    if b then of_operand a o else refused (NotShipped x.operand y.operand)

abbrev pub compute_met : NumericOperator → Lowered → Lowered → Outcome Lowered
compute_met o x y =
    of_result (are_computed o x.operand y.operand) x y (result_operand o x.operand y.operand)
    (typed (computed_tree o x y))

abbrev pub compute_exact : NumericOperator → Lowered → Lowered → Outcome Lowered
compute_exact o x y =
    and_then (converted (conversion_beside x.operand y.operand) x) (λ a.
    and_then (converted (conversion_beside y.operand x.operand) y) (λ b. compute_met o a b))

abbrev pub is_decimal : Operand → Bool
is_decimal (Of (Decimal d)) = true
is_decimal a = false

-- a decimal or a whole number
abbrev pub is_exact : Operand → Bool
is_exact (Whole p) = true
is_exact a = is_decimal a

-- a quotient of a decimal and a decimal or a whole number
abbrev pub is_decimal_quotient : NumericOperator → Operand → Operand → Bool
is_decimal_quotient numeric.Div a b =
    (is_decimal a || is_decimal b) && (is_exact a && is_exact b)
is_decimal_quotient o a b = false

-- both become floats: next to a float, and in a quotient with a decimal
abbrev pub goes_by_floats : NumericOperator → Operand → Operand → Bool
goes_by_floats o a b = meet_in_float a b || is_decimal_quotient o a b

abbrev pub computed : NumericOperator → Lowered → Lowered → Outcome Lowered
computed o x y =
    if goes_by_floats o x.operand y.operand then compute_floats o x y else compute_exact o x y
