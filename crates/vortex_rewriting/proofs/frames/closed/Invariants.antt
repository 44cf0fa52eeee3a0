use Rattle.std.proofs.Common.{◌≡◌, ◌-◌, All, length, map}
use Rattle.vortex_interface.specs.Trees.{children_of}
use Rattle.vortex_rewriting.specs.Frames.{partly}
use Rattle.vortex_rewriting.proofs.frames.closed.Given as goal

-- more unchanged children are no change
abbrev pub invariant-loop-done : goal.invariant-loop-done
invariant-loop-done g l =
    let tree = g.L.Leaf.tree_of in
    let rows = g.L.Leaf.context_of in
    record {
      same : partly (tree l.node) (map tree l.done.items)
          ≡ partly (tree l.node) (map tree l.initial.done.items);
      same_rows : All (λ child. rows child ≡ rows l.node) l.done.items;
    }

abbrev pub decreases-loop-done : goal.decreases-loop-done
decreases-loop-done g l =
    length (children_of (g.L.Leaf.tree_of l.node)) - length l.done.items
