use Rattle.yurkije_pruning.specs.Verdicts.{most_of}
use Rattle.yurkije_pruning.proofs.PutItems.{ArePutSoFar}
use Rattle.yurkije_pruning.proofs.verdicts.put_most.Given as goal

-- the items so far
abbrev pub invariant-loop-k : goal.invariant-loop-k
invariant-loop-k l = ArePutSoFar most_of l.pruned l.fn.room l.room l.k
