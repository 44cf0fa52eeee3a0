-- Texts written one after another, in the bytes of UTF-8.
use Rattle.std.specs.Prelude.{◌≡◌, ℕ, zero, suc, List, [], ◌∷◌, ◌++◌, codes, string_bytes, String}
use Rattle.std.specs.declared.alloc.Global.{Global}
use Rattle.std.specs.List.{join_by}

-- texts with another between each two
abbrev pub joined : List ℕ → List (List ℕ) → List ℕ
joined = join_by (λ piece. piece)

-- what comes before the k-th of them
abbrev pub separator_before : List ℕ → ℕ → List ℕ
separator_before separator zero = []
separator_before separator (suc k) = separator

abbrev pub comma : List ℕ
comma = codes ", "

abbrev pub quote : List ℕ
quote = 34 ∷ []

-- the text is appended to what was there
abbrev pub Appends : String Global → List ℕ → String Global → Type 0
Appends old text new = string_bytes new ≡ string_bytes old ++ text
