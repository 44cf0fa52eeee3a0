use Rattle.vortex_expressions.specs.WritingSteps.{tasks_in, parts_cost}
use Rattle.vortex_expressions.proofs.Walked.{Going}
use Rattle.vortex_expressions.proofs.writing.write_expression.Given as goal

-- what is written and what is left are the tree's tokens
abbrev pub invariant-loop-task : goal.invariant-loop-task
invariant-loop-task l = Going l.tree l.writing

abbrev pub decreases-loop-task : goal.decreases-loop-task
decreases-loop-task l = parts_cost (tasks_in l.writing)
