-- A type for argument types, or none.
use Rattle.std.specs.Prelude.{◌≡◌, Option, Some, None, MatchOption}
use Rattle.vortex_types.specs.declared.dtype.DType.{DType}
use Rattle.vortex_types.specs.LogicalTypes.{LogicalType}
use Rattle.vortex_types.specs.TypeOf.{type_of}

abbrev pub IsTypeFound : Option LogicalType → Option DType → Type 0
IsTypeFound wanted found = MatchOption found (wanted ≡ None) (λ t. wanted ≡ Some (type_of t))
