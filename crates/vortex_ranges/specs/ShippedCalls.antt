-- The ranges of calls of the shipped functions.
use Rattle.std.specs.Prelude.{List, [], ◌∷◌, Bool, Option, Some, None}
use Rattle.vortex_errors.specs.declared.error.NumericOperator.TheVariants as numeric
use Rattle.vortex_types.specs.LogicalTypes.{LogicalType}
use Rattle.vortex_operators.specs.declared.between.BetweenOptions.{BetweenOptions}
use Rattle.vortex_operators.specs.declared.operators.CompareOperator.{CompareOperator}
use Rattle.vortex_operators.specs.declared.operators.Operator.{Operator}
use Rattle.vortex_operators.specs.declared.operators.Operator.TheVariants.{And, Or, Add, Sub}
use Rattle.vortex_operators.specs.declared.operators.Operator.TheVariants.{Mul, Div}
use Rattle.vortex_operators.specs.Operators.{compare_operator_of}
use Rattle.vortex_ranges.specs.Ranges.{RangeView, anything}
use Rattle.vortex_ranges.specs.Truths.{negation, conjunction, disjunction, null_test}
use Rattle.vortex_ranges.specs.Comparing.{comparison, betweenness}
use Rattle.vortex_ranges.specs.Arithmetic.{arithmetic_range}

-- of one argument, of two, and of three; of any other number nothing is known
abbrev pub of_one : (RangeView → RangeView) → List RangeView → RangeView
of_one f (r ∷ []) = f r
of_one f rs = anything

abbrev pub of_two : (RangeView → RangeView → RangeView) → List RangeView → RangeView
of_two f (r ∷ s ∷ []) = f r s
of_two f rs = anything

abbrev pub of_three : (RangeView → RangeView → RangeView → RangeView) → List RangeView → RangeView
of_three f (q ∷ r ∷ s ∷ []) = f q r s
of_three f rs = anything

-- a comparison by the order of values
abbrev pub compared : Option CompareOperator → RangeView → RangeView → RangeView
compared (Some op) r s = comparison op r s
compared None r s = anything

abbrev pub operator_range : Operator → LogicalType → RangeView → RangeView → RangeView
operator_range And t r s = conjunction r s
operator_range Or t r s = disjunction r s
operator_range Add t r s = arithmetic_range numeric.Add t r s
operator_range Sub t r s = arithmetic_range numeric.Sub t r s
operator_range Mul t r s = arithmetic_range numeric.Mul t r s
operator_range Div t r s = arithmetic_range numeric.Div t r s
operator_range op t r s = compared (compare_operator_of op) r s

abbrev pub binary_range : Operator → LogicalType → List RangeView → RangeView
binary_range op t rs = of_two (operator_range op t) rs

abbrev pub not_range : List RangeView → RangeView
not_range rs = of_one negation rs

abbrev pub null_test_range : Bool → List RangeView → RangeView
null_test_range negated rs = of_one (null_test negated) rs

-- the same value
abbrev pub cast_range : List RangeView → RangeView
cast_range rs = of_one (λ r. r) rs

-- the array's argument comes first
abbrev pub between_range : BetweenOptions → List RangeView → RangeView
between_range options rs = of_three (λ r lower upper. betweenness options lower r upper) rs
