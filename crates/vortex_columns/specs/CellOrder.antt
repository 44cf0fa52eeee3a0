-- The order of two values, without their inner values.
use Rattle.std.specs.declared.cmp.Ordering.{Ordering}
use Rattle.std.specs.declared.cmp.Ordering.TheVariants.{Equal}
use Rattle.vortex_types.specs.Values.{Value, list}
use Rattle.vortex_types.specs.Order.{compare_values}

-- for two values that are not both lists; two lists compare equal
abbrev pub single_order : Value → Value → Ordering
single_order (list vs) (list ws) = Equal
single_order v w = compare_values v w
