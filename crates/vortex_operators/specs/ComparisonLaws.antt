-- A comparison, its inverse, and its swap.
use Rattle.std.specs.Prelude.{◌≡◌, Bool, true, false, not, ◌||◌, refl, if◌then◌else◌}
use Rattle.std.proofs.Common.{ap, ◌∙◌}
use Rattle.std.specs.declared.cmp.Ordering.{Ordering}
use Rattle.std.specs.declared.cmp.Ordering.TheVariants.{Less, Equal, Greater}
use Rattle.std.specs.Ordering.{ordering_reverse}
use Rattle.vortex_types.specs.Values.{Value, null, truth, is_null}
use Rattle.vortex_types.specs.Order.{compare_values}
use Rattle.vortex_types.specs.OrderLaws.{compare_values_total}
use Rattle.vortex_operators.specs.declared.operators.CompareOperator.{CompareOperator}
use Rattle.vortex_operators.specs.declared.operators.CompareOperator.TheVariants.{Eq, NotEq, Gt}
use Rattle.vortex_operators.specs.declared.operators.CompareOperator.TheVariants.{Gte, Lt, Lte}
use Rattle.vortex_operators.specs.Operators.{compare_inverse, compare_swap}
use Rattle.vortex_operators.specs.OperatorValues.{not_value}
use Rattle.vortex_operators.specs.OperatorValues.{holds, comparison_value}

-- not (a op b) is a inverse b, for all values, nulls included
abbrev pub AreInverse : CompareOperator → CompareOperator → Type 0
AreInverse op inverse = (v w : Value)
    → not_value (comparison_value op v w) ≡ comparison_value inverse v w

-- a op b is b swapped a
abbrev pub AreSwapped : CompareOperator → CompareOperator → Type 0
AreSwapped op swapped = (v w : Value) → comparison_value op v w ≡ comparison_value swapped w v

holds-inverse : (op : CompareOperator) (o : Ordering)
    → not (holds op o) ≡ holds (compare_inverse op) o
holds-inverse Eq Less = refl
holds-inverse Eq Equal = refl
holds-inverse Eq Greater = refl
holds-inverse NotEq Less = refl
holds-inverse NotEq Equal = refl
holds-inverse NotEq Greater = refl
holds-inverse Gt Less = refl
holds-inverse Gt Equal = refl
holds-inverse Gt Greater = refl
holds-inverse Gte Less = refl
holds-inverse Gte Equal = refl
holds-inverse Gte Greater = refl
holds-inverse Lt Less = refl
holds-inverse Lt Equal = refl
holds-inverse Lt Greater = refl
holds-inverse Lte Less = refl
holds-inverse Lte Equal = refl
holds-inverse Lte Greater = refl

pub holds-swap : (op : CompareOperator) (o : Ordering)
    → holds op (ordering_reverse o) ≡ holds (compare_swap op) o
holds-swap Eq Less = refl
holds-swap Eq Equal = refl
holds-swap Eq Greater = refl
holds-swap NotEq Less = refl
holds-swap NotEq Equal = refl
holds-swap NotEq Greater = refl
holds-swap Gt Less = refl
holds-swap Gt Equal = refl
holds-swap Gt Greater = refl
holds-swap Gte Less = refl
holds-swap Gte Equal = refl
holds-swap Gte Greater = refl
holds-swap Lt Less = refl
holds-swap Lt Equal = refl
holds-swap Lt Greater = refl
holds-swap Lte Less = refl
holds-swap Lte Equal = refl
holds-swap Lte Greater = refl

not_where : (b : Bool) (p q : Bool) → not p ≡ q
    → not_value (if b then null else truth p) ≡ (if b then null else truth q)
not_where true p q e = refl
not_where false p q e = ap truth e

either_side : (a b : Bool) → (a || b) ≡ (b || a)
either_side true true = refl
either_side true false = refl
either_side false true = refl
either_side false false = refl

pub are_inverse : (op : CompareOperator) → AreInverse op (compare_inverse op)
are_inverse op v w =
    not_where (is_null v || is_null w) (holds op (compare_values v w))
    (holds (compare_inverse op) (compare_values v w)) (holds-inverse op (compare_values v w))

pub are_swapped : (op : CompareOperator) → AreSwapped op (compare_swap op)
are_swapped op v w =
    ap (λ b. if b then null else truth (holds op (compare_values v w)))
    (either_side (is_null v) (is_null w))
    ∙ ap (λ b. if is_null w || is_null v then null else truth b)
    (ap (holds op) (compare_values_total.antisymm v w) ∙ holds-swap op (compare_values w v))
