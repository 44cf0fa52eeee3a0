use Rattle.std.proofs.Common.{◌≡◌, ◌++◌, length, map}
use Rattle.std.specs.Prelude.{string_bytes}
use denote.Text.{Utf8}
use denote.Shadow.{shadow}
use Rattle.std.specs.Str.{chars}
use Rattle.vortex_like.specs.Tokens.{tokens_of, character}
use Rattle.vortex_like.proofs.variant.without_escapes.Given as goal

-- the text so far, and the tokens of the rest
abbrev pub invariant-loop-symbol : goal.invariant-loop-symbol
invariant-loop-symbol l =
    shadow (Utf8 l.rest)
    × (tokens_of l.escape (chars l.pattern)
    ≡ map character (chars (string_bytes l.text)) ++ tokens_of l.escape (chars l.rest))

abbrev pub decreases-loop-symbol : goal.decreases-loop-symbol
decreases-loop-symbol l = length (chars l.rest)
