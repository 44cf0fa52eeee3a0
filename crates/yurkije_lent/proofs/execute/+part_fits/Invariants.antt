use Rattle.std.proofs.Common.{ℕ, map, take}
use Rattle.vortex_interface.specs.Execution.{AllLeavesFit}
use Rattle.vortex_interface.specs.Trees.{children_of, trees_of}
use Rattle.yurkije_columns.specs.Batches.{batch_column}
use Rattle.yurkije_lent.proofs.execute.+part_fits.Given as goal

abbrev pub decreases-part_fits : goal.decreases-part_fits
decreases-part_fits l = l.depth

-- the children so far fit
abbrev pub invariant-loop-child : goal.invariant-loop-child
invariant-loop-child l =
    (n : ℕ)
    → AllLeavesFit (map (batch_column n) l.columns) (trees_of (take l.child-index (children_of l.part.tree.now)))
