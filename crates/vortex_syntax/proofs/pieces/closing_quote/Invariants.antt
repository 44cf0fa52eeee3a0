use Rattle.std.proofs.Common.{◌-◌, length}
use Rattle.vortex_syntax.proofs.Quotes.{SoFar}
use Rattle.vortex_syntax.proofs.pieces.closing_quote.Given as goal

abbrev pub invariant-loop-i : goal.invariant-loop-i
invariant-loop-i l = SoFar l.quote l.text l.i

abbrev pub decreases-loop-i : goal.decreases-loop-i
decreases-loop-i l = length l.text - l.i
