use Rattle.std.proofs.Common.{◌≡◌, ◌-◌, true, take}
use Rattle.vortex_interface.specs.Trees.{children_of, trees_of}
use Rattle.yurkije_lent.specs.Calls.{are_direct_trees}
use Rattle.yurkije_lent.proofs.execute.+part_is_direct.Given as goal

abbrev pub decreases-part_is_direct : goal.decreases-part_is_direct
decreases-part_is_direct l = l.depth

-- the children so far are direct
abbrev pub invariant-loop-child : goal.invariant-loop-child
invariant-loop-child l =
    are_direct_trees (l.depth - 1) (trees_of (take l.child-index (children_of l.part.tree.now))) ≡ true
