-- Prefix and suffix of each text that tokens match.
use Rattle.std.specs.Prelude.{◌≡◌, ℕ, Bool, true, List, ◌++◌, map, Option, IsUtf8, nat_eq}
use Rattle.std.specs.List.{starts_with, ends_with}
use Rattle.std.specs.Str.{chars}
use Rattle.vortex_like.specs.Tokens.{Token, character, tokens_of, is_match}

abbrev pub IsNeeded : Bool → List Token → List ℕ → Type 0
IsNeeded case_insensitive tokens front =
    (bytes : List ℕ) → IsUtf8 bytes → is_match case_insensitive tokens (chars bytes) ≡ true
    → starts_with nat_eq bytes front ≡ true

abbrev pub IsNeededEnd : Bool → List Token → List ℕ → Type 0
IsNeededEnd case_insensitive tokens end =
    (bytes : List ℕ) → IsUtf8 bytes → is_match case_insensitive tokens (chars bytes) ≡ true
    → ends_with nat_eq bytes end ≡ true

-- the characters of that part are the last tokens of a pattern
abbrev pub IsLastPart : Option ℕ → List ℕ → List ℕ → Type 0
IsLastPart escape pattern part =
    (before : List Token) × (tokens_of escape pattern ≡ before ++ map character part)
