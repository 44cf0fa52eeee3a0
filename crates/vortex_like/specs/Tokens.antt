-- The tokens of a LIKE pattern, and which texts they match: SQL's LIKE with a chosen escape or
-- none, and for ILIKE Unicode's simple case folding, one character at a time.
use Rattle.std.specs.Prelude.{ℕ, Bool, true, false, ◌==◌, ◌≡◌, ◌&&◌, List, [], ◌∷◌, ◌++◌}
use Rattle.std.specs.Prelude.{◌↔◌, IsTrue, if◌then◌else◌, Option, Some, None}
use Rattle.std.specs.List.{list_any}
use Rattle.unicode.specs.CaseFolding.{simple_fold}

-- any sequence of characters, one character, or that character
pub data Token : Type 0 where
  any : Token
  one : Token
  character : ℕ → Token

-- `%`, `_` and the backslash, which is the default escape
abbrev pub percent : ℕ
percent = 37

abbrev pub underscore : ℕ
underscore = 95

abbrev pub backslash : ℕ
backslash = 92

-- whether a character escapes the one after it
abbrev pub is_escape : Option ℕ → ℕ → Bool
is_escape None c = false
is_escape (Some e) c = c == e

-- the token of a character that is not escaped and is not the escape
abbrev pub plain_token : ℕ → Token
plain_token c =
    if c == percent then any else if c == underscore then one else character c

-- the token of the last character of a pattern: an escape there is an ordinary character
abbrev pub last_token : Option ℕ → ℕ → Token
last_token escape c = if is_escape escape c then character c else plain_token c

-- the tokens of a pattern, by its characters. If a wildcard is the escape, it is no wildcard.
abbrev pub tokens_of : Option ℕ → List ℕ → List Token
tokens_of escape [] = []
tokens_of escape (c ∷ []) = last_token escape c ∷ []
tokens_of escape (c ∷ d ∷ rest) =
    if is_escape escape c then character d ∷ tokens_of escape rest
    else plain_token c ∷ tokens_of escape (d ∷ rest)

abbrev pub is_any : Token → Bool
is_any any = true
is_any t = false

-- whether a character is the one that a pattern asks for
abbrev pub same_character : Bool → ℕ → ℕ → Bool
same_character false own c = own == c
same_character true own c = simple_fold own == simple_fold c

-- whether a text of one character is accepted by the token
abbrev pub accepts : Bool → Token → ℕ → Bool
accepts case_insensitive any c = true
accepts case_insensitive one c = true
accepts case_insensitive (character own) c = same_character case_insensitive own c

-- the tokens match the text
abbrev pub Match : Bool → List Token → List ℕ → Type 0
Match case_insensitive [] text = text ≡ []
Match case_insensitive (any ∷ rest) text =
    (before : List ℕ) × (after : List ℕ) × (text ≡ before ++ after)
    × Match case_insensitive rest after
Match case_insensitive (one ∷ rest) text =
    (c : ℕ) × (after : List ℕ) × (text ≡ c ∷ after) × Match case_insensitive rest after
Match case_insensitive (character own ∷ rest) text =
    (c : ℕ) × (after : List ℕ) × (text ≡ c ∷ after)
    × (same_character case_insensitive own c ≡ true) × Match case_insensitive rest after

-- the suffixes of a text, from the whole text to the empty one
abbrev pub endings : List ℕ → List (List ℕ)
endings [] = [] ∷ []
endings (c ∷ text) = (c ∷ text) ∷ endings text

-- the same as a test
abbrev pub is_match : Bool → List Token → List ℕ → Bool
is_match case_insensitive [] [] = true
is_match case_insensitive [] (c ∷ text) = false
is_match case_insensitive (any ∷ rest) text = list_any (is_match case_insensitive rest)
    (endings text)
is_match case_insensitive (t ∷ rest) [] = false
is_match case_insensitive (t ∷ rest) (c ∷ text) =
    accepts case_insensitive t c && is_match case_insensitive rest text

-- the test is true exactly where the tokens match
abbrev pub TestDecidesMatch : Type 0
TestDecidesMatch = (case_insensitive : Bool) (tokens : List Token) (text : List ℕ)
    → IsTrue (is_match case_insensitive tokens text) ↔ Match case_insensitive tokens text
