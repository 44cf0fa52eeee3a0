use Rattle.yurkije_pruning.specs.Verdicts.{fault_byte}
use Rattle.yurkije_pruning.proofs.PutItems.{ArePutSoFar}
use Rattle.yurkije_pruning.proofs.verdicts.put_faults.Given as goal

-- the items so far
abbrev pub invariant-loop-k : goal.invariant-loop-k
invariant-loop-k l = ArePutSoFar fault_byte l.pruned l.fn.room l.room l.k
