use Rattle.vortex_rewriting.proofs.Listed.{no_validity}
use Rattle.vortex_rewriting.proofs.expression_leaf.ExpressionLeafRuleLeaf.leaf_validity.Goals as goal

pub returns : goal.returns
returns g c = (
  λ called literal r.
      no_validity g.C.ScalarFnVTable.meaning r c.args.tree.now c.as_column-leaf.result literal
      called c.as_column-leaf.ensures,
  tt,
)
