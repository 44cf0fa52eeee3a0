-- The weight and the depth of a list of values that grew.
use Rattle.std.proofs.Common.{◌≡◌, ◌+◌, List, [], ◌∷◌, ◌++◌, arith, Option, Some, None, max}
use Rattle.vortex_types.specs.declared.scalar_value.ScalarValue.{ScalarValue}
use Rattle.vortex_types.specs.ValueParts.{value_weights, deepest_value}

pub value_weights_append : (xs ys : List (Option ScalarValue))
    → value_weights (xs ++ ys) ≡ value_weights xs + value_weights ys
value_weights_append [] ys = omega arith
value_weights_append (None ∷ xs) ys = omega (arith, value_weights_append xs ys)
value_weights_append (Some x ∷ xs) ys = omega (arith, value_weights_append xs ys)

pub deepest_value_append : (xs ys : List (Option ScalarValue))
    → deepest_value (xs ++ ys) ≡ max (deepest_value xs) (deepest_value ys)
deepest_value_append [] ys = omega arith
deepest_value_append (x ∷ xs) ys = omega (arith, deepest_value_append xs ys)

pub ruleset weights = (value_weights_append, deepest_value_append)
