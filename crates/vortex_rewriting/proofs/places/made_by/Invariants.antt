use Rattle.std.proofs.Common.{◌≡◌, ◌≤◌, Some, take}
use Rattle.vortex_interface.specs.Places.{rewritten_list}
use Rattle.vortex_rewriting.specs.Rewriting.{steps_of}
use Rattle.vortex_rewriting.proofs.places.made_by.Given as goal

-- the steps so far were taken
abbrev pub invariant-loop-step : goal.invariant-loop-step
invariant-loop-step g l =
    let tree = g.L.Leaf.tree_of in
    let rows = g.L.Leaf.context_of in
    (rewritten_list g.L.RewriteLeaf.applied (take l.step-index (steps_of l.steps)) (tree l.tree)
    ≡ Some (tree l.last, l.applied))
    × (l.applied ≤ l.step-index)
    × (rows l.last ≡ rows l.tree)
