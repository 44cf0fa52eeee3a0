use Rattle.std.proofs.Common.{◌≡◌, length}
use Rattle.vortex_logical_calls.specs.Literals.{behind_point}
use Rattle.vortex_logical_calls.proofs.literals.behind_point.Given as goal

abbrev pub invariant-loop-rest : goal.invariant-loop-rest
invariant-loop-rest l = behind_point l.number ≡ behind_point l.rest

abbrev pub decreases-loop-rest : goal.decreases-loop-rest
decreases-loop-rest l = length l.rest
