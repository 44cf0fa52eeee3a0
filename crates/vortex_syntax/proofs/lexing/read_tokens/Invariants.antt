use Rattle.std.proofs.Common.{length, map}
use Rattle.vortex_syntax.specs.Tokens.{token_in}
use Rattle.vortex_syntax.proofs.Lexed.{SoFar}
use Rattle.vortex_syntax.proofs.Placed.{Placed}
use Rattle.vortex_syntax.proofs.lexing.read_tokens.Given as goal

abbrev pub invariant-loop-rest : goal.invariant-loop-rest
invariant-loop-rest l =
    SoFar l.text (map token_in l.read.tokens.items) l.rest
    × Placed l.text (map token_in l.read.tokens.items) l.read.places.items l.read.end l.rest

abbrev pub decreases-loop-rest : goal.decreases-loop-rest
decreases-loop-rest l = length l.rest
