-- What stands at the end of a list after it was written to.
use Rattle.std.specs.Prelude.{◌≡◌, ℕ, List, ◌++◌}

-- a text that meets P was appended
abbrev pub Appends : (List ℕ → Type 0) → List ℕ → List ℕ → Type 0
Appends P old new = (text : List ℕ) × P text × (new ≡ old ++ text)
