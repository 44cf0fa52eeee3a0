use Rattle.vortex_cells.proofs.ShortNumbers.{SaysFrom}
use Rattle.vortex_cells.proofs.digits.many_digits.Given as goal

-- the rest continues the number so far
abbrev pub invariant-loop-byte : goal.invariant-loop-byte
invariant-loop-byte l = SaysFrom l.digits l.byte-index l.number
