-- The view of a scalar: its type and its value. Two scalars compare where their types agree apart
-- from nullability.
use Rattle.std.specs.Prelude.{Bool, Option, Some, None, refl, if◌then◌else◌}
use Rattle.std.specs.Coded.{Coded, code_by, coded×}
use Rattle.std.specs.declared.cmp.Ordering.{Ordering}
use Rattle.std.specs.Ordering.{is_eq, is_some_and}
use Rattle.vortex_types.specs.LogicalTypes.{LogicalType}
use Rattle.vortex_types.specs.TypeEquality.{alike_types}
use Rattle.vortex_types.specs.Values.{Value}
use Rattle.vortex_types.specs.Order.{compare_values}
use Rattle.vortex_types.specs.Codes.{coded_value, coded_type}

pub record ScalarView : Type 0 where
  pub dtype : LogicalType
  pub value : Value

abbrev pub coded_scalar : Coded ScalarView
coded_scalar =
    code_by (LogicalType × Value) (coded× coded_type coded_value) (λ s. (s.dtype, s.value))
    (λ p. record { dtype = p.0; value = p.1 }) (λ _. refl)

-- the order of the values where the types agree apart from nullability
abbrev pub compare_scalars : ScalarView → ScalarView → Option Ordering
compare_scalars a b =
    if alike_types a.dtype b.dtype then Some (compare_values a.value b.value) else None

abbrev pub scalar_eq : ScalarView → ScalarView → Bool
scalar_eq a b = is_some_and is_eq (compare_scalars a b)
