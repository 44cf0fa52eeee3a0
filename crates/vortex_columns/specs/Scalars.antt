-- The view of a scalar's parts.
use Rattle.vortex_columns.specs.declared.scalar.Scalar.TheInside.{Inside}
use Rattle.vortex_types.specs.Typing.{HasType}
use Rattle.vortex_types.specs.TypeOf.{type_of}
use Rattle.vortex_types.specs.ValueOf.{value_or_null}
use Rattle.vortex_types.specs.ScalarView.{ScalarView}

abbrev pub scalar_view : Inside → ScalarView
scalar_view a = record { dtype = type_of a.dtype; value = value_or_null a.value }

abbrev pub IsScalar : Inside → Type 0
IsScalar a = HasType (type_of a.dtype) (value_or_null a.value)
