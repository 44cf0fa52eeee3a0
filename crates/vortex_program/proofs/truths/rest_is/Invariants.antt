use Rattle.vortex_program.specs.Deciding.{AreAllBetween}
use Rattle.vortex_program.proofs.truths.rest_is.Given as goal

-- each bit so far
abbrev pub invariant-loop-i : goal.invariant-loop-i
invariant-loop-i l = AreAllBetween l.truth l.from l.i l.bits
