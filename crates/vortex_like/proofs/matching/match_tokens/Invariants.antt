use denote.Text.{Utf8}
use denote.Shadow.{shadow}
use Rattle.std.specs.Str.{chars}
use Rattle.vortex_like.proofs.Walk.{IsWalk, steps}
use Rattle.vortex_like.proofs.matching.match_tokens.Given as goal

abbrev pub invariant-loop-back : goal.invariant-loop-back
invariant-loop-back l =
    shadow (Utf8 l.rest)
    × IsWalk l.case_insensitive l.tokens (chars l.text) l.at (chars l.rest) l.back l.looks

abbrev pub decreases-loop-back : goal.decreases-loop-back
decreases-loop-back l = steps l.tokens (chars l.text) l.at l.back
