use Rattle.std.proofs.Common.{◌≤◌}
use Rattle.vortex_cells.proofs.ShortNumbers.{SaysFrom, most_of}
use Rattle.vortex_cells.proofs.digits.few_digits.Given as goal

-- the rest continues the number so far, which has as many digits
abbrev pub invariant-loop-byte : goal.invariant-loop-byte
invariant-loop-byte l = record {
  says : SaysFrom l.digits l.byte-index l.number;
  small : l.number ≤ most_of l.byte-index;
}
