-- How many values a value is made of, and how deep they are.
use Rattle.std.specs.Prelude.{ℕ, suc, ◌+◌, List, [], ◌∷◌, map, Option, Some, None}
use denote.Param.Weighed.{most}
use Rattle.vortex_types.specs.declared.scalar_value.ScalarValue.{ScalarValue, fold-ScalarValue}
use Rattle.vortex_types.specs.declared.scalar_value.ScalarValue.{size-ScalarValue}
use Rattle.vortex_types.specs.declared.scalar_value.ScalarValue.TheOpen.{ScalarValue-F}

-- an element weighs one more than its value
abbrev pub places_weight : List (Option ℕ) → ℕ
places_weight [] = 0
places_weight (None ∷ places) = suc (places_weight places)
places_weight (Some n ∷ places) = suc (n + places_weight places)

-- one level, with each value inside already weighed
abbrev pub value_weight_step : ScalarValue-F ℕ → ℕ
value_weight_step (ScalarValue-F.List vs) = places_weight vs.items
value_weight_step leaf = 0

abbrev pub value_weight : ScalarValue → ℕ
value_weight = fold-ScalarValue ℕ value_weight_step

abbrev pub weight_or_none : Option ScalarValue → Option ℕ
weight_or_none None = None
weight_or_none (Some v) = Some (value_weight v)

abbrev pub value_weights : List (Option ScalarValue) → ℕ
value_weights vs = places_weight (map weight_or_none vs)

abbrev pub size_or_none : Option ScalarValue → ℕ
size_or_none None = 0
size_or_none (Some v) = size-ScalarValue v

abbrev pub deepest_value : List (Option ScalarValue) → ℕ
deepest_value = most size_or_none
