-- A function with its options: a shipped one, or a caller's, given by its meaning.
use Rattle.std.specs.Prelude.{◌≡◌, ℕ, List, Option, Some, None, Bool, length, if◌then◌else◌}
use Rattle.vortex_errors.specs.declared.arity.Arity.{Arity}
use Rattle.vortex_errors.specs.declared.error.MismatchPlace.{MismatchPlace}
use Rattle.vortex_errors.specs.declared.error.VortexError.{VortexError}
use Rattle.vortex_errors.specs.declared.error.VortexError.TheVariants as error
use Rattle.vortex_errors.specs.Answers.{UnlessMemory}
use Rattle.vortex_types.specs.LogicalTypes.{LogicalType}
use Rattle.vortex_types.specs.Values.{Value}
use Rattle.vortex_interface.specs.Outcomes.{Outcome}
use Rattle.vortex_interface.specs.Meaning.{Meaning, fits}
use Rattle.vortex_interface.specs.Shipped.{Shipped, shipped_id, shipped_arity, shipped_child_name}
use Rattle.vortex_interface.specs.Shipped.{shipped_type, shipped_means, shipped_place, is_strict}
use Rattle.vortex_interface.specs.Shipped.{is_infallible}

pub data Function (V O : Type 0) : Type 0 where
  ours : Shipped → Function V O
  custom : V → O → Function V O

module _ {V O : Type 0} (m : Meaning V O) where
  abbrev pub function_id : Function V O → List ℕ
  function_id (ours s) = shipped_id s
  function_id (custom f o) = m.id f

  abbrev pub function_arity : Function V O → Arity
  function_arity (ours s) = shipped_arity s
  function_arity (custom f o) = m.arity f o

  abbrev pub function_child_name : Function V O → ℕ → List ℕ
  function_child_name (ours s) i = shipped_child_name s i
  function_child_name (custom f o) i = m.child_name f o i

  -- the return type, if the argument types are accepted
  abbrev pub function_type : Function V O → List LogicalType → Option LogicalType
  function_type (ours s) ts = shipped_type s ts
  function_type (custom f o) ts = m.return_type f o ts

  -- the row meaning
  abbrev pub function_means : Function V O → List LogicalType → List Value → Outcome
  function_means (ours s) ts vs = shipped_means s ts vs
  function_means (custom f o) ts vs = m.means f o ts vs

  abbrev pub function_strict : Function V O → Bool
  function_strict (ours s) = is_strict s
  function_strict (custom f o) = m.strict f o

  abbrev pub function_infallible : Function V O → Bool
  function_infallible (ours s) = is_infallible s
  function_infallible (custom f o) = m.infallible f o

  -- the return type of a call, if its arity fits and the argument types are accepted
  abbrev pub call_type : Function V O → List LogicalType → Option LogicalType
  call_type f ts = if fits (function_arity f) (length ts) then function_type f ts else None

-- E3 at some place
abbrev pub IsTypeMismatch : VortexError → Type 0
IsTypeMismatch (error.TypeMismatch p) = Unit {0}
IsTypeMismatch e = ⊥

-- E3 at that place; a function without a place never fails with E3
abbrev pub IsMismatchAt : Option MismatchPlace → VortexError → Type 0
IsMismatchAt None e = ⊥
IsMismatchAt (Some p) e = e ≡ error.TypeMismatch p

-- the error for argument types: E3 at the place of a shipped function, at any place for a caller's
abbrev pub IsMismatchOf : {V O : Type 0} → Function V O → List LogicalType → VortexError → Type 0
IsMismatchOf (ours s) ts e = IsMismatchAt (shipped_place s ts) e
IsMismatchOf (custom f o) ts e = IsTypeMismatch e

-- a shipped function fails for argument types that are not accepted, and allocates nothing
abbrev pub RefusesShipped : Shipped → List LogicalType → VortexError → Type 0
RefusesShipped s ts e = (shipped_type s ts ≡ None) × IsMismatchAt (shipped_place s ts) e

-- so does a caller's, which may run out of memory
abbrev pub RefusesCustom : {V O : Type 0} → Meaning V O → V → O
    → List LogicalType → VortexError → Type 0
RefusesCustom m f o ts e = (m.return_type f o ts ≡ None) × IsTypeMismatch e

abbrev pub RefusesTypes : {V O : Type 0} → Meaning V O → Function V O
    → List LogicalType → VortexError → Type 0
RefusesTypes m (ours s) ts e = RefusesShipped s ts e
RefusesTypes m (custom f o) ts e = UnlessMemory (RefusesCustom m f o ts) e
