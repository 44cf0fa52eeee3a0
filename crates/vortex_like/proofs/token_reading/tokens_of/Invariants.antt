use Rattle.std.proofs.Common.{◌≡◌, ◌++◌, length}
use denote.Text.{Utf8}
use denote.Shadow.{shadow}
use Rattle.std.specs.Str.{chars}
use Rattle.vortex_like.specs.Tokens.{tokens_of}
use Rattle.vortex_like.proofs.token_reading.tokens_of.Given as goal

-- the tokens so far, and those of the rest
abbrev pub invariant-loop-token : goal.invariant-loop-token
invariant-loop-token l =
    shadow (Utf8 l.rest)
    × (l.tokens.items ++ tokens_of l.escape (chars l.rest) ≡ tokens_of l.escape (chars l.pattern))

abbrev pub decreases-loop-token : goal.decreases-loop-token
decreases-loop-token l = length (chars l.rest)
