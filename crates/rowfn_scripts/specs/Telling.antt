-- A script has one meaning: if memory suffices it has exactly one outcome; and what is printed
-- before memory runs out is a prefix of what is printed then.
use Rattle.std.specs.Prelude.{◌≡◌, ◌≢◌, ◌++◌, ℕ, List}
use Rattle.vortex_errors.specs.declared.error.VortexError.TheVariants.{OutOfMemory}
use Rattle.vortex_interface.specs.Meaning.{Meaning}
use Rattle.vortex_interface.specs.Rules.{Rules}
use Rattle.rowfn_scripts.specs.declared.ending.End.{End}
use Rattle.rowfn_scripts.specs.declared.ending.End.TheVariants.{Refused}
use Rattle.rowfn_scripts.specs.Scripts.{IsOutcome}

-- an outcome other than out of memory
pub record IsFullOutcome {V O : Type 0} (m : Meaning V O) (rs : Rules V O)
    (script out : List ℕ) (ending : End) : Type 0 where
  pub outcome : IsOutcome m rs script out ending
  pub memory : ending ≢ Refused OutOfMemory

-- each script has one
abbrev pub EachHasFullOutcome : {V O : Type 0} → Meaning V O → Rules V O → Type 0
EachHasFullOutcome m rs =
    (script : List ℕ) → (out : List ℕ) × (ending : End) × IsFullOutcome m rs script out ending

-- and no two
abbrev pub FullOutcomesAreOne : {V O : Type 0} → Meaning V O → Rules V O → Type 0
FullOutcomesAreOne m rs =
    (script out other : List ℕ) (ending last : End)
    → IsFullOutcome m rs script out ending → IsFullOutcome m rs script other last
    → (out ≡ other) × (ending ≡ last)

abbrev pub PrintsABeginning : {V O : Type 0} → Meaning V O → Rules V O → Type 0
PrintsABeginning m rs =
    (script out whole : List ℕ) (ending last : End)
    → IsOutcome m rs script out ending → IsOutcome m rs script whole last
    → (last ≡ Refused OutOfMemory → ⊥) → (rest : List ℕ) × (whole ≡ out ++ rest)
