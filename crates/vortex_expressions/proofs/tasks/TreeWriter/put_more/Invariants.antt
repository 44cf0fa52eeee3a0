use Rattle.std.proofs.Common.{◌≡◌, ◌≤◌, ◌++◌, drop, length}
use Rattle.vortex_expressions.specs.WritingSteps.{tasks_in, more_parts}
use Rattle.vortex_expressions.proofs.tasks.TreeWriter.put_more.Given as goal

abbrev pub invariant-loop-left : goal.invariant-loop-left
invariant-loop-left l =
    (l.left ≤ length l.operands)
    × (tasks_in l.self ≡ more_parts l.depth (drop l.left l.operands) ++ tasks_in l.fn.self)
    × (l.self.writer ≡ l.fn.self.writer)

abbrev pub decreases-loop-left : goal.decreases-loop-left
decreases-loop-left l = l.left
