-- Checked arithmetic of the integers in columns.
use Rattle.std.specs.Prelude.{◌≡◌, ℤ, Option, Some, None}
use Rattle.vortex_types.specs.declared.dtype.PType.{PType}
use Rattle.vortex_types.specs.Typing.{FitsPType}

-- there is a result, and the integer type holds it
abbrev pub FitsResult : PType → Option ℤ → Type 0
FitsResult p None = ⊥
FitsResult p (Some z) = FitsPType p z

-- the result is this number where the integer type holds it
abbrev pub AnswersExact : PType → Option ℤ → ℤ → Type 0
AnswersExact p exact z = FitsResult p exact → exact ≡ Some z
