-- The bytes with which a text that tokens match may begin.
use Rattle.std.specs.Prelude.{◌≡◌, ◌≤◌, ◌<◌, ℕ, Bool, true, List, [], ◌∷◌, length, slice_index_or}
use Rattle.vortex_like.specs.Tokens.{Token, accepts}

-- whether the first of the tokens accepts a text that begins with that character
abbrev pub admits : Bool → List Token → ℕ → Bool
admits case_insensitive [] c = true
admits case_insensitive (t ∷ rest) c = accepts case_insensitive t c

-- for each byte whether a text may begin with it; true for a byte that is not ASCII, as it may
-- begin any character
pub record AreFirstBytes (case_insensitive : Bool) (tokens : List Token) (may : List Bool)
    : Type 0 where
  pub count : length may ≡ 256
  pub ascii : (b : ℕ) → b < 128 → slice_index_or may b true ≡ admits case_insensitive tokens b
  pub others : (b : ℕ) → 128 ≤ b → b < 256 → slice_index_or may b true ≡ true
