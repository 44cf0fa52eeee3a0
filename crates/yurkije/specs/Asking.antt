-- What is asked of an expression and of answers that a handle holds.
use Rattle.std.specs.Prelude.{◌≡◌, ◌⊎◌, ◌≤◌, ◌<◌, ℕ, Bool, List, Option, Some, None, take, length}
use Rattle.std.specs.Prelude.{if◌then◌else◌, nat_eq, slice_get, IfSome}
use Rattle.std.specs.Str.{IsCharBoundary}
use Rattle.vortex_types.specs.LogicalTypes.{LogicalType, field_count, field_type, is_nullable}
use Rattle.vortex_types.specs.FieldNames.{field_name}
use Rattle.vortex_interface.specs.Eval.{tree_type}
use Rattle.vortex_expressions.specs.Items.{meaning}
use Rattle.vortex_arrow.specs.Written.{SameBehind}
use Rattle.yurkije_columns.specs.Kinds.{kind_number, number_at, reported_number}
use Rattle.yurkije_columns.specs.declared.kinds.Type as told
use Rattle.vortex_program.specs.Naming.{IsTreeText}
use Rattle.yurkije_core.specs.Fields.{marked_places}
use Rattle.yurkije.specs.Views.{ProgramView}

-- P of what is there, or the status where nothing is: then what was handed over is the same
abbrev pub Asks : {A : Type 0} → Option A → ℕ → ℕ → Type 0 → (A → Type 0) → Type 0
Asks None status result same P = (result ≡ status) × same
Asks (Some a) status result same P = P a

-- a room and a length are as they were
abbrev pub SameRoom : List ℕ → List ℕ → ℕ → ℕ → Type 0
SameRoom old new len_old len = (new ≡ old) × (len ≡ len_old)

-- a text is written into a room, of as many whole characters as there is room for, and how long it
-- is is told
pub record IsPut (text old new : List ℕ) (len result : ℕ) : Type 0 where
  pub count : ℕ
  pub room : count ≤ length old
  pub boundary : IsCharBoundary text count
  pub most : (i : ℕ) → count < i → i ≤ length old → ¬ IsCharBoundary text i
  pub written : take count new ≡ take count text
  pub behind : SameBehind count old new
  pub told : len ≡ length text
  pub status : result ≡ (if nat_eq count (length text) then 0 else 104)

-- what is told of a type, whose values have the meaning of a number
pub record IsType (n : ℕ) (t : LogicalType) (u : told.Type) : Type 0 where
  pub kind : u.kind ≡ reported_number n t
  pub nullable : u.nullable ≡ is_nullable t

-- the name and the type of a field; none has a number past the last, and then nothing is written
abbrev pub TellsFieldName : ProgramView → ℕ → List ℕ → List ℕ → ℕ → ℕ → ℕ → Type 0
TellsFieldName p k old new len_old len result =
    (k < field_count p.scope → IsPut (field_name k p.scope) old new len result)
    × (field_count p.scope ≤ k → (result ≡ 101) × SameRoom old new len_old len)

abbrev pub TellsFieldType : ProgramView → ℕ → told.Type → told.Type → ℕ → Type 0
TellsFieldType p k old t result =
    (k < field_count p.scope → (result ≡ 0) × IsType (number_at p.kinds k) (field_type k p.scope) t)
    × (field_count p.scope ≤ k → (result ≡ 101) × (t ≡ old))

-- numbers are written, and how many they are is told; or there is no room for them, and none is
abbrev pub PutsNumbers : List ℕ → List ℕ → List ℕ → ℕ → ℕ → Type 0
PutsNumbers ns old new count result =
    (count ≡ length ns)
    × (((result ≡ 0) × (take (length ns) new ≡ ns) × SameBehind (length ns) old new)
    ⊎ ((result ≡ 104) × (length old < length ns) × (new ≡ old)))

-- the numbers of the fields that answers read, ascending; or memory ran out
abbrev pub TellsFieldsRead : ProgramView → List ℕ → List ℕ → ℕ → ℕ → ℕ → Type 0
TellsFieldsRead p old new count_old count result =
    ((result ≡ 9) × (new ≡ old) × (count ≡ count_old))
    ⊎ PutsNumbers (marked_places 0 p.reads) old new count result

-- those of an answer
abbrev pub TellsAnswerName : ProgramView → ℕ → List ℕ → List ℕ → ℕ → ℕ → ℕ → Type 0
TellsAnswerName p k old new len_old len result =
    Asks (slice_get p.names k) 101 result (SameRoom old new len_old len)
    (λ name. IsPut name old new len result)

abbrev pub TellsAnswerType : ProgramView → ℕ → told.Type → told.Type → ℕ → Type 0
TellsAnswerType p k old t result =
    Asks (slice_get p.written k) 101 result (t ≡ old)
    (λ tree. Asks (slice_get p.means k) 101 result (t ≡ old)
    (λ m. (result ≡ 0) × IfSome (tree_type meaning tree) (λ u. IsType (kind_number m) u t)))

-- the text of an answer, as it was written or as it is run; or memory ran out, and nothing is
-- written
abbrev pub TellsAnswerText : ProgramView → ℕ → Bool → List ℕ → List ℕ → ℕ → ℕ → ℕ → Type 0
TellsAnswerText p k optimized old new len_old len result =
    ((result ≡ 9) × SameRoom old new len_old len)
    ⊎ Asks (slice_get (if optimized then p.optimized else p.written) k) 101 result
    (SameRoom old new len_old len)
    (λ tree. (words : List ℕ) × IsTreeText tree words × IsPut words old new len result)
