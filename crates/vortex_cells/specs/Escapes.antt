-- Escape characters of LIKE.
use Rattle.std.specs.Prelude.{ℕ, List, [], ◌∷◌, Option, Some, None}

-- the escape of a text, by its characters: the only one, or none if it is empty
abbrev pub escape_of : List ℕ → Option (Option ℕ)
escape_of [] = Some None
escape_of (c ∷ []) = Some (Some c)
escape_of cs = None
