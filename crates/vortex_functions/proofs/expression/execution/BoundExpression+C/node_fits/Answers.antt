use Rattle.std.proofs.Common.{sym, ap, ◌∙◌, subst, IsTrue, ◌↔◌}
use Rattle.vortex_functions.specs.Executing.{NodeFits}
use Rattle.vortex_functions.proofs.NodeKinds.{expression_node, leaf_node_fits}
use Rattle.vortex_functions.proofs.expression.execution.BoundExpression+C.node_fits.Goals as goal

pub returns-in-Leaf : goal.returns-in-Leaf
returns-in-Leaf g c =
    let is = sym c.self.view_is ∙ ap expression_node c.in-Leaf.is in
    subst (λ t. IsTrue c.fits.result ↔ NodeFits c.args.columns.now t) (sym is)
    (leaf_node_fits _ _ c.args.columns.now c.in-Leaf.leaf c.fits.result c.fits.ensures)
