-- What is read of a pattern up to its first wildcard.
use Rattle.std.specs.Prelude.{ℕ, List, MatchBool, string_bytes, Option}
use Rattle.std.specs.Str.{chars}
use Rattle.vortex_like.specs.Tokens.{tokens_of}
use Rattle.vortex_like.specs.Variants.{AreLiteral, AreLiteralThenWildcard}
use Rattle.vortex_like.specs.declared.variant.Unescaped.{Unescaped}

abbrev pub IsUnescaped : Option ℕ → List ℕ → Unescaped → Type 0
IsUnescaped escape pattern read =
    MatchBool read.at_wildcard
    (AreLiteralThenWildcard (tokens_of escape pattern) (chars (string_bytes read.text)))
    (AreLiteral (tokens_of escape pattern) (chars (string_bytes read.text)))
