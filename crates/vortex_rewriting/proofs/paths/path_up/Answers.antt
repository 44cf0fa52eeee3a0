use Rattle.std.proofs.Common.{◌≡◌, ℕ, ap, sym, ◌∙◌, map, Some}
use Rattle.std.proofs.lemmas.List.Elements.{All-pop}
use Rattle.std.proofs.lemmas.Option.{slice_get_within}
use Rattle.vortex_interface.specs.Trees.{Tree, children_of}
use Rattle.vortex_interface.specs.Eval.{tree_type}
use Rattle.vortex_rewriting.specs.Parents.{with_parents}
use Rattle.vortex_rewriting.specs.declared.paths.Parent.{Parent}
use Rattle.vortex_rewriting.proofs.DownAndUp.{popped, way_above, with_last}
use Rattle.vortex_rewriting.proofs.DownAndUp.{with_child_typed}
use Rattle.vortex_rewriting.proofs.paths.path_up.Goals as goal

pub with_child-requires-clause-is_child : goal.with_child-requires-clause-is_child
with_child-requires-clause-is_child g c =
    let tree = g.L.Leaf.tree_of in
    let i = c.loop-parent.invariant in
    let p = c.in-Some.parent in
    let at = way_above (λ (p : Parent g.row.L-Seen.Denot). (tree p.node.now, p.index))
    c.loop-parent.parents.items c.pop.new.self.items p (tree c.args.tree.now) i.0
    c.in-Some.ensures.items i.1 in
    slice_get_within (children_of (tree p.node.now)) p.index i.0 at.1

pub with_child-requires-clause-same_type : goal.with_child-requires-clause-same_type
with_child-requires-clause-same_type g c =
    let m = g.C.ScalarFnVTable.meaning in
    let tree = g.L.Leaf.tree_of in
    let i = c.loop-parent.invariant in
    let p = c.in-Some.parent in
    let at = way_above (λ (p : Parent g.row.L-Seen.Denot). (tree p.node.now, p.index))
    c.loop-parent.parents.items c.pop.new.self.items p (tree c.args.tree.now) i.0
    c.in-Some.ensures.items i.1 in
    λ x there.
    let same : i.0 ≡ x = cc (at.1, there) in
    i.2 ∙ ap (tree_type m) same

pub loop-parent-preserved : goal.loop-parent-preserved
loop-parent-preserved g c =
    let m = g.C.ScalarFnVTable.meaning in
    let tree = g.L.Leaf.tree_of in
    let rows = g.L.Leaf.context_of in
    let f : Parent g.row.L-Seen.Denot → Tree g.row.C.Denot g.row.C-Options.Denot × ℕ =
    λ p. (tree p.node.now, p.index) in
    let i = c.loop-parent.invariant in
    let p = c.in-Some.parent in
    let all = c.loop-parent.parents.items in
    let rest = c.pop.new.self.items in
    let made = tree c.loop-parent.made in
    let at = way_above f all rest p (tree c.args.tree.now) i.0 c.in-Some.ensures.items i.1 in
    let here = All-pop (λ (p : Parent g.row.L-Seen.Denot). rows p.node.now ≡ rows c.args.tree.now)
    all rest (Some p) c.in-Some.ensures.items i.4 in (
      tree p.node.now,
      at.0,
      ap (tree_type m) c.in_ok-made.ensures.0
          ∙ with_child_typed m (tree p.node.now) i.0 made p.index at.1 i.2,
      ap (with_parents (map f rest)) c.in_ok-made.ensures.0
          ∙ sym (with_last (map f rest) (f p) made)
          ∙ ap (λ z. with_parents z made) (sym (popped f all rest p c.in-Some.ensures.items))
          ∙ i.3,
      here.0,
      c.in_ok-made.ensures.1 ∙ here.1,
    )
