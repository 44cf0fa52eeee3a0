use Rattle.std.proofs.Common.{sym, ap, ◌∙◌, subst}
use Rattle.vortex_functions.specs.Executing.{Fits, AnswersTree, LendsLeaf}
use Rattle.vortex_functions.proofs.NodeKinds.{expression_node}
use Rattle.vortex_functions.proofs.expression.execution.BoundExpression+C.execute_fitting.Goals
    as goal

pub rows-requires : goal.rows-requires
rows-requires g c =
    let is = sym c.self.view_is ∙ ap expression_node c.in-Leaf.is in
    subst (Fits c.args.columns.now c.args.row_count) is c.requires

pub compute-requires : goal.compute-requires
compute-requires g c = c.requires

pub returns-in-Leaf-clause-answer : goal.returns-in-Leaf-clause-answer
returns-in-Leaf-clause-answer g c =
    let is = sym c.self.view_is ∙ ap expression_node c.in-Leaf.is in
    subst (λ t. AnswersTree g.C.ScalarFnVTable.meaning c.args.columns.now c.args.row_count t
    c.rows.result) (sym is) c.rows.ensures.answer

pub returns-in-Leaf-clause-borrowed : goal.returns-in-Leaf-clause-borrowed
returns-in-Leaf-clause-borrowed g c =
    let is = sym c.self.view_is ∙ ap expression_node c.in-Leaf.is in
    subst (λ t. LendsLeaf c.args.columns.now t c.rows.result) (sym is) c.rows.ensures.borrowed
