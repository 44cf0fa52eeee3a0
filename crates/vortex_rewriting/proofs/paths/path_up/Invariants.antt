use Rattle.std.proofs.Common.{◌≡◌, All, length, map}
use Rattle.vortex_interface.specs.Trees.{Tree}
use Rattle.vortex_interface.specs.Eval.{tree_type}
use Rattle.vortex_rewriting.specs.Parents.{IsPath, with_parents}
use Rattle.vortex_rewriting.proofs.paths.path_up.Given as goal

abbrev pub invariant-loop-parent : goal.invariant-loop-parent
invariant-loop-parent g l =
    let m = g.C.ScalarFnVTable.meaning in
    let tree = g.L.Leaf.tree_of in
    let rows = g.L.Leaf.context_of in
    (x : Tree g.row.C.Denot g.row.C-Options.Denot)
    × IsPath (map (λ p. (tree p.node.now, p.index)) l.parents.items) (tree l.tree) x
    × (tree_type m (tree l.made) ≡ tree_type m x)
    × (with_parents (map (λ p. (tree p.node.now, p.index)) l.parents.items) (tree l.made)
    ≡ with_parents (map (λ p. (tree p.node.now, p.index)) l.fn.way.parents.items) (tree l.fn.new))
    × All (λ p. rows p.node.now ≡ rows l.tree) l.parents.items
    × (rows l.made ≡ rows l.tree)

abbrev pub decreases-loop-parent : goal.decreases-loop-parent
decreases-loop-parent g l = length l.parents.items
