-- The first of the remaining tokens, and how many need a character.
use Rattle.std.specs.Prelude.{ℕ, Bool, false, not, List, [], ◌∷◌, count_by}
use Rattle.vortex_like.specs.Tokens.{Token, is_any, accepts}

abbrev pub begins_with_any : List Token → Bool
begins_with_any [] = false
begins_with_any (t ∷ rest) = is_any t

abbrev pub first_accepts : Bool → List Token → ℕ → Bool
first_accepts case_insensitive [] c = false
first_accepts case_insensitive (t ∷ rest) c = accepts case_insensitive t c

abbrev pub asked : List Token → ℕ
asked tokens = count_by (λ t. not (is_any t)) tokens
