-- The value that a `ScalarValue` represents, which is never null.
use Rattle.std.specs.Prelude.{List, map, Option, Some, None, string_bytes}
use Rattle.vortex_types.specs.declared.scalar_value.ScalarValue.{ScalarValue, fold-ScalarValue}
use Rattle.vortex_types.specs.declared.scalar_value.ScalarValue.TheOpen.{ScalarValue-F}
use Rattle.vortex_types.specs.Values.{Value, null, truth, number, text, bytes, list, Values}
use Rattle.vortex_types.specs.Values.{values_of}

abbrev pub or_null : Option Value → Value
or_null None = null
or_null (Some v) = v

-- one level, with each value inside already seen
abbrev pub scalar_step : ScalarValue-F Value → Value
scalar_step (ScalarValue-F.Bool b) = truth b
scalar_step (ScalarValue-F.Int n) = number n
scalar_step (ScalarValue-F.Utf8 s) = text (string_bytes s)
scalar_step (ScalarValue-F.Binary v) = bytes v.items
scalar_step (ScalarValue-F.List vs) = list (values_of (map or_null vs.items))

abbrev pub value_of : ScalarValue → Value
value_of = fold-ScalarValue Value scalar_step

abbrev pub value_or_null : Option ScalarValue → Value
value_or_null None = null
value_or_null (Some v) = value_of v

abbrev pub values_or_null : List (Option ScalarValue) → Values
values_or_null vs = values_of (map value_or_null vs)
