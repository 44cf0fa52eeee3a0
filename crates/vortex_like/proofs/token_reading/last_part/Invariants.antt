use Rattle.std.proofs.Common.{◌≡◌, ◌++◌, List, length}
use denote.Text.{Utf8}
use denote.Shadow.{shadow}
use Rattle.std.specs.Str.{chars}
use Rattle.vortex_like.specs.Tokens.{Token, tokens_of}
use Rattle.vortex_like.proofs.token_reading.last_part.Given as goal

-- the tokens so far, and those of the rest
abbrev pub invariant-loop-behind : goal.invariant-loop-behind
invariant-loop-behind l =
    shadow (Utf8 l.rest)
    × ((before : List Token)
    × (tokens_of l.escape (chars l.pattern) ≡ before ++ tokens_of l.escape (chars l.rest)))

abbrev pub decreases-loop-behind : goal.decreases-loop-behind
decreases-loop-behind l = length (chars l.rest)
