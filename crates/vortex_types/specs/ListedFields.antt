-- Fields that are listed one by one, each a name with its type.
use Rattle.std.specs.Borrow.{Bor}
use Rattle.std.specs.Prelude.{◌≢◌, ℕ, List, [], ◌∷◌, map, AllPairs}
use Rattle.vortex_types.specs.declared.dtype.DType.{DType}
use Rattle.vortex_types.specs.LogicalTypes.{Fields, no_fields, field}
use Rattle.vortex_types.specs.TypeOf.{type_of}

abbrev pub listed_fields : List (Bor (List ℕ) × DType) → Fields
listed_fields [] = no_fields
listed_fields (f ∷ fs) = field f.0.now (type_of f.1) (listed_fields fs)

-- names are distinct
abbrev pub NameEachOnce : List (Bor (List ℕ) × DType) → Type 0
NameEachOnce fs = AllPairs (λ a b. a ≢ b) (map (λ f. f.0.now) fs)
