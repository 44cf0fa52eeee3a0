-- Which tokens a text has: its pieces from left to right, without the gaps.
use Rattle.std.specs.Prelude.{◌≡◌, ℕ, List, [], ◌∷◌, Some}
use Rattle.vortex_syntax.specs.Tokens.{Token}
use Rattle.vortex_syntax.specs.Pieces.{gap, token, first_piece}

pub data Lexes : List ℕ → List Token → Type 0 where
  none : Lexes [] []
  gap_first : {bs rest : List ℕ} {ts : List Token} → first_piece bs ≡ Some (gap, rest)
      → Lexes rest ts → Lexes bs ts
  token_first : {bs rest : List ℕ} {t : Token} {ts : List Token}
      → first_piece bs ≡ Some (token t, rest) → Lexes rest ts → Lexes bs (t ∷ ts)
