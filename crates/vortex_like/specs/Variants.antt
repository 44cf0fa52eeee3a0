-- The simple shapes of a pattern.
use Rattle.std.specs.Prelude.{◌≡◌, ◌≢◌, ◌↔◌, ◌==◌, ◌||◌, ℕ, Bool, true, false, not, List, []}
use Rattle.std.specs.Prelude.{◌∷◌, ◌++◌, map, Option, Some, None, if◌then◌else◌}
use Rattle.std.specs.declared.alloc.Global.{Global}
use Rattle.std.specs.Cow.{cow_str_bytes}
use Rattle.std.specs.declared.borrow.CowStr.{CowStr}
use Rattle.std.specs.declared.borrow.CowStr.TheVariants.{Borrowed, Owned}
use Rattle.std.specs.Str.{chars}
use Rattle.vortex_like.specs.Tokens.{Token, any, one, character, tokens_of, Match}
use Rattle.vortex_like.specs.Tokens.{percent, underscore, is_escape}
use Rattle.vortex_like.specs.declared.variant.LikeVariant.{LikeVariant}
use Rattle.vortex_like.specs.declared.variant.LikeVariant.TheVariants.{Exact, Prefix}

abbrev pub is_wildcard : Token → Bool
is_wildcard any = true
is_wildcard one = true
is_wildcard (character c) = false

-- the tokens are those of a text, each an ordinary character
abbrev pub AreLiteral : List Token → List ℕ → Type 0
AreLiteral tokens text = tokens ≡ map character text

-- the tokens are those of a text, followed by a wildcard
abbrev pub AreLiteralThenWildcard : List Token → List ℕ → Type 0
AreLiteralThenWildcard tokens text =
    (w : Token) × (rest : List Token) × (is_wildcard w ≡ true)
    × (tokens ≡ map character text ++ w ∷ rest)

-- the first of the characters that are special is the escape
abbrev pub meets_escape : Option ℕ → List ℕ → Bool
meets_escape escape [] = false
meets_escape escape (c ∷ pattern) =
    if is_escape escape c then true
    else if c == percent || c == underscore then false else meets_escape escape pattern

abbrev pub is_borrowed : CowStr Global → Bool
is_borrowed (Borrowed text) = true
is_borrowed (Owned text) = false

-- the text of the pattern without its escapes, borrowed exactly where no escape was met
abbrev pub IsVariantOf : Option ℕ → List ℕ → Option LikeVariant → Type 0
IsVariantOf escape pattern None = AreLiteralThenWildcard (tokens_of escape pattern) []
IsVariantOf escape pattern (Some (Exact text)) =
    AreLiteral (tokens_of escape pattern) (chars (cow_str_bytes text))
    × (is_borrowed text ≡ not (meets_escape escape pattern))
IsVariantOf escape pattern (Some (Prefix text)) =
    AreLiteralThenWildcard (tokens_of escape pattern) (chars (cow_str_bytes text))
    × (chars (cow_str_bytes text) ≢ []) × (is_borrowed text ≡ not (meets_escape escape pattern))

-- what that means for the texts that the pattern matches, by their characters: Exact matches only
-- that text, and each text that Prefix matches begins with it
abbrev pub TellsMatches : Option ℕ → List ℕ → Option LikeVariant → Type 0
TellsMatches escape pattern None = Unit {0}
TellsMatches escape pattern (Some (Exact text)) =
    (matched : List ℕ)
    → Match false (tokens_of escape pattern) matched ↔ (matched ≡ chars (cow_str_bytes text))
TellsMatches escape pattern (Some (Prefix text)) =
    (matched : List ℕ) → Match false (tokens_of escape pattern) matched
    → (rest : List ℕ) × (matched ≡ chars (cow_str_bytes text) ++ rest)
