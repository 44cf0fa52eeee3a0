-- A level as one byte.
use Rattle.std.specs.Prelude.{ℕ, List, [], ◌∷◌, Option, Some, None}
use Rattle.caller_functions.specs.declared.levelled.Level.{Level}

abbrev pub level_bytes : Level → List ℕ
level_bytes o = o.level ∷ []

abbrev pub level_read : List ℕ → Option Level
level_read (byte ∷ []) = Some (record { level = byte })
level_read bytes = None
