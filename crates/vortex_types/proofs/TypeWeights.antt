-- The weight and the depth of a list of types that grew.
use Rattle.std.proofs.Common.{◌≡◌, ◌+◌, suc, List, [], ◌∷◌, ◌++◌, arith, String, Global, max}
use Rattle.vortex_types.specs.declared.dtype.DType.{DType, size-DType}
use Rattle.vortex_types.specs.TypeParts.{type_weight, type_weights, deepest}

pub weights_push : (xs : List (String Global × DType)) (x : String Global × DType)
    → type_weights (xs ++ x ∷ []) ≡ suc (type_weights xs + type_weight x.1)
weights_push [] x = omega arith
weights_push (y ∷ ys) x = omega (arith, weights_push ys x)

pub deepest_push : (xs : List (String Global × DType)) (x : String Global × DType)
    → deepest (xs ++ x ∷ []) ≡ max (deepest xs) (size-DType x.1)
deepest_push [] x = omega arith
deepest_push (y ∷ ys) x = omega (arith, deepest_push ys x)

pub weights_append : (xs ys : List (String Global × DType))
    → type_weights (xs ++ ys) ≡ type_weights xs + type_weights ys
weights_append [] ys = omega arith
weights_append (x ∷ xs) ys = omega (arith, weights_append xs ys)

pub deepest_append : (xs ys : List (String Global × DType))
    → deepest (xs ++ ys) ≡ max (deepest xs) (deepest ys)
deepest_append [] ys = omega arith
deepest_append (x ∷ xs) ys = omega (arith, deepest_append xs ys)

pub ruleset weights = (weights_push, deepest_push, weights_append, deepest_append)
