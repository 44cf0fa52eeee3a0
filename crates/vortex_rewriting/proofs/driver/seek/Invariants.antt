use Rattle.std.proofs.Common.{length}
use Rattle.vortex_rewriting.proofs.Walking.{IsWalk, steps_left}
use Rattle.vortex_rewriting.proofs.driver.seek.Given as goal

-- the whole tree is unchanged, and what is done is in normal form
abbrev pub invariant-loop-done : goal.invariant-loop-done
invariant-loop-done g l =
    let B = g.L.Leaf in
    IsWalk B.tree_of g.L.Leaf.rule B.context_of l.fn.above.items l.fn.node
    l.above.items l.node l.done.items

abbrev pub decreases-loop-done : goal.decreases-loop-done
decreases-loop-done g l =
    steps_left g.L.Leaf.tree_of l.above.items l.node (length l.done.items)
