use Rattle.std.proofs.Common.{◌-◌, length}
use Rattle.vortex_syntax.proofs.Comments.{SoFar}
use Rattle.vortex_syntax.proofs.gaps.comment_len.Given as goal

abbrev pub invariant-loop-i : goal.invariant-loop-i
invariant-loop-i l = SoFar l.text l.depth l.i

abbrev pub decreases-loop-i : goal.decreases-loop-i
decreases-loop-i l = length l.text - l.i
