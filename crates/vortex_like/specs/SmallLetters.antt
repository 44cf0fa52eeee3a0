-- ASCII letters in lower case.
use Rattle.std.specs.Prelude.{◌≡◌, ◌<◌, ℕ, List, Bool, map, if◌then◌else◌}
use Rattle.std.specs.Char.{to_ascii_lowercase}
use Rattle.unicode.specs.CaseFolding.{simple_fold}

-- each ASCII character folds to its lower-case letter, or to itself if it is no letter
abbrev pub FoldsToSmall : Type 0
FoldsToSmall = (c : ℕ) → c < 128 → simple_fold c ≡ to_ascii_lowercase c

abbrev pub small : List ℕ → List ℕ
small bytes = map to_ascii_lowercase bytes

-- in lower case if requested
abbrev pub cased : Bool → List ℕ → List ℕ
cased in_small bytes = if in_small then small bytes else bytes
