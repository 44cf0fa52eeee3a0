use Rattle.yurkije_core.proofs.PutRows.{PutSoFar}
use Rattle.yurkije_core.proofs.chunks.push_all.Given as goal

-- the rows of the columns so far are put
abbrev pub invariant-loop-k : goal.invariant-loop-k
invariant-loop-k l = PutSoFar l.k l.initial.joined.items l.answers l.joined.items
