-- A value between two bounds, each strict or not.
use Rattle.std.specs.Prelude.{◌++◌, ◌||◌, ℕ, List, Bool, true, false, codes}
use Rattle.vortex_types.specs.LogicalTypes.{LogicalType, bool_type, is_nullable}
use Rattle.vortex_types.specs.Values.{Value}
use Rattle.vortex_operators.specs.declared.between.BetweenOptions.{BetweenOptions}
use Rattle.vortex_operators.specs.declared.between.StrictComparison.{StrictComparison}
use Rattle.vortex_operators.specs.declared.between.StrictComparison.TheVariants.{Strict, NonStrict}
use Rattle.vortex_operators.specs.declared.operators.Operator.TheVariants.{And}
use Rattle.vortex_operators.specs.declared.operators.CompareOperator.{CompareOperator}
use Rattle.vortex_operators.specs.declared.operators.CompareOperator.TheVariants.{Lt, Lte}
use Rattle.vortex_operators.specs.Operators.{text_of, operator_of}
use Rattle.vortex_operators.specs.OperatorValues.{boolean_value, comparison_value}

abbrev pub is_strict : StrictComparison → Bool
is_strict Strict = true
is_strict NonStrict = false

abbrev pub bound_operator : StrictComparison → CompareOperator
bound_operator Strict = Lt
bound_operator NonStrict = Lte

-- lower op x and x op upper, by Kleene's And
abbrev pub between_value : BetweenOptions → Value → Value → Value → Value
between_value options lower x upper =
    boolean_value And (comparison_value (bound_operator options.lower_strict) lower x)
    (comparison_value (bound_operator options.upper_strict) x upper)

-- Bool, nullable if any of the three is
abbrev pub between_type : LogicalType → LogicalType → LogicalType → LogicalType
between_type t lower upper = bool_type ((is_nullable t || is_nullable lower) || is_nullable upper)

-- the operator of a bound as SQL writes it
abbrev pub bound_text : StrictComparison → List ℕ
bound_text strict = text_of (operator_of (bound_operator strict))

abbrev pub between_options_text : BetweenOptions → List ℕ
between_options_text options =
    codes "lower_strict: " ++ bound_text options.lower_strict
    ++ codes ", upper_strict: " ++ bound_text options.upper_strict
