use Rattle.std.proofs.Common.{rules, ◌≡◌, ◌∷◌, ◌∙◌, ℕ, map, subst, sym}
use Rattle.std.proofs.lemmas.List.Elements.{All-push, All-same}
use Rattle.vortex_interface.specs.Trees.{Tree}
use Rattle.vortex_rewriting.specs.Parents.{IsPath, LeadsOn}
use Rattle.vortex_rewriting.specs.declared.paths.Parent.{Parent}
use Rattle.vortex_rewriting.proofs.DownAndUp.{popped, way_push, way_goes_on}
use Rattle.vortex_rewriting.proofs.paths.path_down.Goals as goal

pub loop-first-preserved : goal.loop-first-preserved
loop-first-preserved g c =
    let tree = g.L.Leaf.tree_of in
    let rows = g.L.Leaf.context_of in
    let f : Parent g.row.L-Seen.Denot → Tree g.row.C.Denot g.row.C-Options.Denot × ℕ =
    λ p. (tree p.node.now, p.index) in
    let i = c.loop-first.invariant in
    let before = c.loop-first.parents.items in
    let t = tree c.args.tree.now in
    let x = tree c.loop-first.place.now in
    let y = tree c.child-place.result.now in
    let k = c.in-Some.first.now in
    let rest = c.in-Some.rest.now in
    let path = c.args.path.now in
    let next : c.loop-first.left.now ≡ k ∷ rest = search rules in
    let is = popped f c.push.new.self.items before _ c.in_ok-push.ensures.items in
    let here = λ (p : Parent g.row.L-Seen.Denot). rows p.node.now ≡ rows c.args.tree.now in (
      subst (λ z. IsPath z t y) (sym is)
          (way_push (map f before) t x y k i.0 c.child-place.ensures.tree),
      subst (λ z. LeadsOn path t z rest y) (sym is)
          (way_goes_on path t (map f before) c.loop-first.left.now rest k x i.1 next y
          c.child-place.ensures.tree),
      All-same here c.push.new.self.items _ c.in_ok-push.ensures.items
          (All-push here before _ i.2 i.3),
      c.child-place.ensures.same_rows ∙ i.3,
    )
