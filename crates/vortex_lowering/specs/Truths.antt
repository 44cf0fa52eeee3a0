-- The truth of a comparison of two values, by the order of what they mean.
use Rattle.std.specs.Prelude.{◌≡◌, Option, Some, None, Bool}
use Rattle.std.specs.declared.cmp.Ordering.{Ordering}
use Rattle.std.specs.declared.cmp.Ordering.TheVariants.{Less, Equal, Greater}
use Rattle.vortex_operators.specs.declared.operators.CompareOperator.{CompareOperator}
use Rattle.vortex_operators.specs.OperatorValues.{holds}
use Rattle.vortex_logical.specs.StandsFor.{Meaning, IsBelow, IsLevel}

abbrev pub AreOrdered : Meaning → Meaning → Ordering → Type 0
AreOrdered v w Less = IsBelow v w
AreOrdered v w Equal = IsLevel v w
AreOrdered v w Greater = IsBelow w v

-- unknown beside null, else by the order of the values
abbrev pub IsTruth : CompareOperator → Option Meaning → Option Meaning → Option Bool → Type 0
IsTruth op (Some v) (Some w) p = (c : Ordering) × AreOrdered v w c × (p ≡ Some (holds op c))
IsTruth op v w p = p ≡ None
