use Rattle.std.proofs.Common.{map, take}
use Rattle.vortex_interface.specs.Execution.{Executes}
use Rattle.vortex_functions.specs.Walks.{AllMean}
use Rattle.vortex_standard.specs.Standard.{standard_meaning}
use Rattle.vortex_program.proofs.executing.execute_all.Given as goal

-- the columns of the answers so far
abbrev pub invariant-loop-answer : goal.invariant-loop-answer
invariant-loop-answer l =
    AllMean (Executes standard_meaning l.columns l.row_count)
    (map (λ a. a.tree) (take l.answer-index l.answers)) l.executed.items
