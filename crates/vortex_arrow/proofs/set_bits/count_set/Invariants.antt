use Rattle.std.proofs.Common.{◌≡◌, ◌*◌, length}
use Rattle.vortex_arrow.specs.Written.{places}
use Rattle.vortex_arrow.proofs.set_bits.count_set.Given as goal

abbrev pub invariant-loop-k : goal.invariant-loop-k
invariant-loop-k g l = l.set ≡ length (places (g.W.BitWords.row_bit l.rows) (64 * l.k))
