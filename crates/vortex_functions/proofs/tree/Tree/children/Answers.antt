use Rattle.std.proofs.Common.{◌≡◌, map, sym, subst, ap, ◌∙◌}
use Rattle.std.specs.Prelude.{All}
use Rattle.vortex_functions.proofs.Leaves.{children_as_trees, children_beside_it}
use Rattle.vortex_functions.proofs.tree.Tree.children.Goals as goal

pub returns-clause-trees : goal.returns-clause-trees
returns-clause-trees g c =
    let l = g.L.Leaf in
    ap (map l.tree_of) c.below.ensures ∙ children_as_trees l c.args.self.now

pub returns-clause-same_rows : goal.returns-clause-same_rows
returns-clause-same_rows g c =
    let l = g.L.Leaf in
    subst (All (λ x. l.context_of x ≡ l.context_of c.args.self.now)) (sym c.below.ensures)
    (children_beside_it l c.args.self.now)
