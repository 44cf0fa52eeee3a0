-- The simple case foldings of the 128 characters of ASCII.
use Rattle.std.specs.Prelude.{◌≡◌, ◌<◌, ℕ, List, length, slice_index, map}
use Rattle.unicode.specs.CaseFolding.{simple_fold}

pub record AreAsciiFolds (folds : List ℕ) : Type 0 where
  pub count : length folds ≡ 128
  pub each : (c : ℕ) → c < 128 → slice_index folds c ≡ simple_fold c

-- what each character of a text folds to
abbrev pub folded : List ℕ → List ℕ
folded text = map simple_fold text
