use Rattle.std.proofs.Common.{sym, ap, subst, ◌∙◌}
use Rattle.std.specs.Prelude.{IsSome}
use Rattle.vortex_interface.specs.Eval.{tree_type}
use Rattle.vortex_rewriting.specs.Frames.{plug, frames_in}
use Rattle.vortex_rewriting.proofs.Walking.{goes_up, frames_above, over_typed, rows_above}
use Rattle.vortex_rewriting.proofs.Walking.{rows_push}
use Rattle.vortex_rewriting.proofs.frames.whole_tree.Goals as goal

pub closed-requires-clause-typed : goal.closed-requires-clause-typed
closed-requires-clause-typed g c =
    let m = g.C.ScalarFnVTable.meaning in
    let l = c.loop-frame in
    over_typed g.L.Leaf.tree_of g.L.Leaf.rule m l.above.items
    c.pop.new.self.items c.in-Some.frame l.whole c.push.new.self.items c.in-Some.ensures.items
    c.in_ok-push.ensures.items l.invariant.frames
    (subst (λ t. IsSome (tree_type m t)) (sym l.invariant.same) c.requires.typed)

pub closed-requires-clause-same_rows : goal.closed-requires-clause-same_rows
closed-requires-clause-same_rows g c =
    let rows = g.L.Leaf.context_of in
    let l = c.loop-frame in
    let f = c.in-Some.frame in
    let here = rows_above rows (rows c.args.place) l.above.items c.pop.new.self.items f
    c.in-Some.ensures.items l.invariant.rows_above in
    let more = rows_push rows (rows c.args.place) c.push.new.self.items f.done.items l.whole here.2
    l.invariant.same_rows c.in_ok-push.ensures.items in
    λ k d lt. more k d lt ∙ sym here.1

pub loop-frame-preserved : goal.loop-frame-preserved
loop-frame-preserved g c =
    let tree = g.L.Leaf.tree_of in
    let rows = g.L.Leaf.context_of in
    let l = c.loop-frame in
    let rest = c.pop.new.self.items in
    let f = c.in-Some.frame in
    let here = rows_above rows (rows c.args.place) l.above.items rest f c.in-Some.ensures.items
    l.invariant.rows_above in
    record {
      frames =
          (frames_above tree g.L.Leaf.rule l.above.items rest f
          c.in-Some.ensures.items l.invariant.frames).0;
      same =
          ap (plug (frames_in tree rest)) c.in_ok-whole.ensures.0
          ∙ goes_up tree l.above.items rest f l.whole c.push.new.self.items
          c.in-Some.ensures.items c.in_ok-push.ensures.items
          ∙ l.invariant.same;
      rows_above = here.0;
      same_rows = c.in_ok-whole.ensures.1 ∙ here.1;
    }
