-- The text of a call of a function, part by part, and as a whole.
use Rattle.std.specs.Prelude.{◌≡◌, ◌⊎◌, ◌++◌, ℕ, zero, suc, List, [], Option, IfSome, length, map}
use Rattle.std.specs.Prelude.{string_bytes, String}
use Rattle.std.specs.declared.alloc.Global.{Global}
use Rattle.vortex_interface.specs.CallTexts.{Appends, text_at, default_before}

-- the text that a call of that many arguments may have before the one that is printed k-th, and
-- which argument that is
abbrev pub Parts : Type 1
Parts = ℕ → ℕ → List ℕ → ℕ → Type 0

-- the default, from the identity and the text of the options, if that is known; the arguments in
-- order
abbrev pub IsDefault : List ℕ → Option (List ℕ) → Parts
IsDefault id printed count k text place =
    (options : List ℕ) × (k ≡ count → IfSome printed (λ bytes. options ≡ bytes))
    × (text ≡ default_before id options count k) × (place ≡ k)

-- the default, or the function's own
abbrev pub IsDefaultOrOwn : List ℕ → Option (List ℕ) → Parts → Parts
IsDefaultOrOwn id printed own count k text place =
    IsDefault id printed count k text place ⊎ own count k text place

-- such a part is written
abbrev pub WritesPart : Parts → ℕ → ℕ → String Global → String Global → ℕ → Type 0
WritesPart part count k old new place =
    (text : List ℕ) × Appends old text new × part count k text place

-- that many parts from the k-th on, each with the text of its argument
abbrev pub AreTold : (ℕ → List ℕ → ℕ → Type 0) → ℕ → ℕ → List (List ℕ) → List ℕ → Type 0
AreTold part k zero texts told = told ≡ []
AreTold part k (suc left) texts told =
    (text : List ℕ) × (place : ℕ) × (rest : List ℕ) × part k text place
    × AreTold part (suc k) left texts rest × (told ≡ text ++ text_at place texts ++ rest)

-- the text of a call is written, from the texts of its arguments
abbrev pub AppendsCall : Parts → List (String Global) → String Global → String Global → Type 0
AppendsCall part texts old new =
    (told : List ℕ) × Appends old told new
    × AreTold (part (length texts)) 0 (suc (length texts)) (map string_bytes texts) told
