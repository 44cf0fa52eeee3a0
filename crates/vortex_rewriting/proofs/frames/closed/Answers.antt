use Rattle.std.proofs.Common.{◌≡◌, ap, map, ◌∙◌}
use Rattle.vortex_rewriting.specs.Frames.{partly}
use Rattle.vortex_rewriting.proofs.FrameWalks.{partly_next}
use Rattle.vortex_rewriting.proofs.Walking.{of_some, next_is, map_push, rows_push}
use Rattle.vortex_rewriting.proofs.frames.closed.Goals as goal

pub loop-done-preserved : goal.loop-done-preserved
loop-done-preserved g c =
    let tree = g.L.Leaf.tree_of in
    let rows = g.L.Leaf.context_of in
    let node = c.args.frame.node in
    let done = c.loop-done.done.items in
    let more = c.push.new.self.items in
    let child = c.in-Some.child in
    let at = next_is tree (tree node) done c.deref.result.now c.in_ok-child.field-0 child
    c.deref.ensures.value c.in_ok-child.ensures.answer c.in-Some.is in
    record {
      same =
          ap (partly (tree node)) (map_push tree more done child c.in_ok-push.ensures.items)
          ∙ partly_next (tree node) (map tree done) (tree child) at
          ∙ c.loop-done.invariant.same;
      same_rows =
          rows_push rows (rows node) more done child c.loop-done.invariant.same_rows
          (of_some (λ t. rows t ≡ rows node) c.in_ok-child.field-0 child
          c.in_ok-child.ensures.same_rows c.in-Some.is)
          c.in_ok-push.ensures.items;
    }
