use Rattle.std.proofs.Common.{map, take}
use Rattle.vortex_interface.specs.Execution.{AllLeavesFit}
use Rattle.vortex_interface.specs.Trees.{children_of, trees_of}
use Rattle.vortex_functions.proofs.Execution.{AllHaveRows}
use Rattle.vortex_standard.specs.Standard.{standard_meaning}
use Rattle.yurkije_columns.specs.Batches.{batch_column}
use Rattle.yurkije_lent.specs.Operands.{operand_column}
use Rattle.yurkije_lent.proofs.execute.+execute_part.Given as goal

abbrev pub decreases-execute_part : goal.decreases-execute_part
decreases-execute_part l = l.depth

-- the children so far fit, and their rows
abbrev pub invariant-loop-child : goal.invariant-loop-child
invariant-loop-child l =
    AllLeavesFit (map (batch_column l.rows) l.columns)
    (trees_of (take l.child-index (children_of l.part.tree.now)))
    × AllHaveRows standard_meaning (map (batch_column l.rows) l.columns) l.rows
    (take l.child-index (children_of l.part.tree.now)) (map operand_column l.inputs.items)
