use Rattle.std.proofs.Common.{◌*◌}
use Rattle.vortex_program.specs.Deciding.{AreAllBetween}
use Rattle.vortex_program.proofs.truths.words_are.Given as goal

-- each bit of the words so far
abbrev pub invariant-loop-k : goal.invariant-loop-k
invariant-loop-k l = AreAllBetween l.truth 0 (64 * l.k) l.bits
