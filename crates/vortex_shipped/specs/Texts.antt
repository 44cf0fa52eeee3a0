-- The text of a call of a shipped function.
use Rattle.std.specs.Prelude.{◌≡◌, ℕ, List, map, string_bytes, String}
use Rattle.std.specs.declared.alloc.Global.{Global}
use Rattle.vortex_interface.specs.CallTexts.{Appends}
use Rattle.vortex_interface.specs.Shipped.{Shipped, shipped_before, shipped_printed, shipped_text}
use Rattle.vortex_interface.specs.Texts.{Parts}

-- what comes before the argument that is printed k-th, and which argument that is
abbrev pub shipped_parts : Shipped → Parts
shipped_parts s count k text place = (text ≡ shipped_before s k) × (place ≡ shipped_printed s k)

-- it is written
abbrev pub WritesBefore : Shipped → ℕ → String Global → String Global → ℕ → Type 0
WritesBefore s k old new place =
    Appends old (shipped_before s k) new × (place ≡ shipped_printed s k)

-- the text of a call is written, from the texts of its arguments
abbrev pub AppendsCall : Shipped → List (String Global) → String Global → String Global → Type 0
AppendsCall s texts old new = Appends old (shipped_text s (map string_bytes texts)) new
