use Rattle.std.proofs.Common.{◌≡◌, All, length, map}
use Rattle.vortex_rewriting.specs.Parents.{IsPath, LeadsOn}
use Rattle.vortex_rewriting.proofs.paths.path_down.Given as goal

abbrev pub invariant-loop-first : goal.invariant-loop-first
invariant-loop-first g l =
    let tree = g.L.Leaf.tree_of in
    let rows = g.L.Leaf.context_of in
    IsPath (map (λ p. (tree p.node.now, p.index)) l.parents.items) (tree l.tree) (tree l.place)
    × LeadsOn l.path (tree l.tree) (map (λ p. (tree p.node.now, p.index)) l.parents.items)
    l.left (tree l.place)
    × All (λ p. rows p.node.now ≡ rows l.tree) l.parents.items
    × (rows l.place ≡ rows l.tree)

abbrev pub decreases-loop-first : goal.decreases-loop-first
decreases-loop-first g l = length l.left
