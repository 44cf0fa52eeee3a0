-- A started copy: whole, or the values of a list that are still to be copied.
use Rattle.std.specs.Prelude.{ℕ}
use Rattle.vortex_types.specs.Values.{Value, list}
use Rattle.vortex_types.specs.ValueOf.{value_of, values_or_null}
use Rattle.vortex_types.specs.ValueParts.{value_weights}
use Rattle.vortex_types.specs.declared.scalar_value.copying.Begun.{Begun}
use Rattle.vortex_types.specs.declared.scalar_value.copying.Begun.TheVariants.{Whole, Items}

-- what it becomes
abbrev pub begun_value : Begun → Value
begun_value (Whole v) = value_of v
begun_value (Items items) = list (values_or_null items.now.items)

-- how much is still to be copied
abbrev pub begun_weight : Begun → ℕ
begun_weight (Whole v) = 0
begun_weight (Items items) = value_weights items.now.items
