use Rattle.std.proofs.Common.{◌≡◌, ◌≤◌, ◌-◌}
use Rattle.vortex_interface.specs.Driver.{Runs}
use Rattle.vortex_rewriting.specs.Frames.{plug, frames_in, AreFrames, HaveRows}
use Rattle.vortex_rewriting.proofs.driver.take_steps.Given as goal

-- the run so far
abbrev pub invariant-loop-tree : goal.invariant-loop-tree
invariant-loop-tree g l =
    let tree = g.L.Leaf.tree_of in
    let rows = g.L.Leaf.context_of in
    let rule = g.L.Leaf.rule in
    record {
      run : Runs rule l.steps (tree l.tree) (plug (frames_in tree l.above.items) (tree l.place));
      frames : AreFrames rule (frames_in tree l.above.items);
      rows_above : HaveRows rows (rows l.tree) l.above.items;
      rows_place : rows l.place ≡ rows l.tree;
      within : l.steps ≤ l.limit;
    }

abbrev pub decreases-loop-tree : goal.decreases-loop-tree
decreases-loop-tree g l = l.limit - l.steps
