use Rattle.std.proofs.Common.{length}
use Rattle.vortex_functions.specs.Executing.{HasRows}
use Rattle.vortex_standard.specs.Standard.{standard_meaning}
use Rattle.vortex_expressions.specs.Items.{Tree}
use Rattle.vortex_program.specs.Deciding.{IsSpine}
use Rattle.vortex_program.proofs.deciding.execute_spine.Given as goal

-- the nodes that are left lead from the tree to one whose rows the column has
abbrev pub invariant-loop-joined : goal.invariant-loop-joined
invariant-loop-joined l =
    (node : Tree) × IsSpine l.tree l.above.items node
    × HasRows standard_meaning l.columns l.row_count node l.column

abbrev pub decreases-loop-joined : goal.decreases-loop-joined
decreases-loop-joined l = length l.above.items
