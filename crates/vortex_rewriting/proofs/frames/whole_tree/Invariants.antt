use Rattle.std.proofs.Common.{◌≡◌, length}
use Rattle.vortex_rewriting.specs.Frames.{plug, frames_in, AreFrames, HaveRows}
use Rattle.vortex_rewriting.proofs.frames.whole_tree.Given as goal

-- the whole tree is the same, over the same rows
abbrev pub invariant-loop-frame : goal.invariant-loop-frame
invariant-loop-frame g l =
    let tree = g.L.Leaf.tree_of in
    let rows = g.L.Leaf.context_of in
    record {
      frames : AreFrames g.L.Leaf.rule (frames_in tree l.above.items);
      same : plug (frames_in tree l.above.items) (tree l.whole)
          ≡ plug (frames_in tree l.fn.above.items) (tree l.fn.place);
      rows_above : HaveRows rows (rows l.fn.place) l.above.items;
      same_rows : rows l.whole ≡ rows l.fn.place;
    }

abbrev pub decreases-loop-frame : goal.decreases-loop-frame
decreases-loop-frame g l = length l.above.items
