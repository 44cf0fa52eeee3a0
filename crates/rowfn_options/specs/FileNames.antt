-- What the name of a file says.
use Rattle.std.specs.Prelude.{◌≡◌, ◌⊎◌, ◌-◌, ℕ, List, [], ◌∷◌, map, length, drop}
use Rattle.std.specs.Char.{to_ascii_lowercase}

-- a name ends with that text, whatever the case of its letters
abbrev pub EndsAs : List ℕ → List ℕ → Type 0
EndsAs end name = map to_ascii_lowercase (drop (length name - length end) name)
    ≡ map to_ascii_lowercase end

-- a file of that name has tabs between fields: it ends with `.tsv` or `.tab`
abbrev pub IsTabbed : List ℕ → Type 0
IsTabbed name = EndsAs (46 ∷ 116 ∷ 115 ∷ 118 ∷ []) name ⊎ EndsAs (46 ∷ 116 ∷ 97 ∷ 98 ∷ []) name
