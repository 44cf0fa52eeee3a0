use Rattle.vortex_expressions.proofs.Quoting.{SoFar}
use Rattle.vortex_expressions.proofs.quotes.unquoted.Given as goal

abbrev pub invariant-loop-byte : goal.invariant-loop-byte
invariant-loop-byte l = SoFar l.quote l.written l.text.items l.is_doubled l.byte-index
