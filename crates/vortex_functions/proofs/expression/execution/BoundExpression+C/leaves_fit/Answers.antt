use Rattle.std.proofs.Common.{sym, ap, ◌∙◌, subst, IsTrue, ◌↔◌}
use Rattle.vortex_interface.specs.Execution.{LeavesFit}
use Rattle.vortex_functions.proofs.NodeKinds.{expression_node, leaf_tree_fits}
use Rattle.vortex_functions.proofs.expression.execution.BoundExpression+C.leaves_fit.Goals as goal

pub returns-in-Leaf-clause-answer : goal.returns-in-Leaf-clause-answer
returns-in-Leaf-clause-answer g c =
    let is = sym c.self.view_is ∙ ap expression_node c.in-Leaf.is in
    subst (λ t. IsTrue c.fits.result ↔ LeavesFit c.args.columns.now t) (sym is)
    (leaf_tree_fits _ _ c.args.columns.now c.in-Leaf.leaf c.fits.result c.fits.ensures)
