use Rattle.std.specs.Prelude.{⊤}
use Rattle.std.proofs.Common.{length}
use Rattle.vortex_expressions.proofs.failures.unequal_items.Given as goal

abbrev pub invariant-loop-rest : goal.invariant-loop-rest
invariant-loop-rest l = ⊤

abbrev pub decreases-loop-rest : goal.decreases-loop-rest
decreases-loop-rest l = length l.rest
