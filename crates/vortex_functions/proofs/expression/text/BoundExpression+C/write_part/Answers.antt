use Rattle.vortex_functions.proofs.WrittenTexts.{leaf_part}
use Rattle.vortex_functions.proofs.expression.text.BoundExpression+C.write_part.Goals as goal

pub returns-in_ok-write_leaf-in-None : goal.returns-in_ok-write_leaf-in-None
returns-in_ok-write_leaf-in-None g c =
    leaf_part c.args.self.now c.args.k c.args.out.now c.write_leaf.new.out c.in-None.ensures
    c.in_ok-write_leaf-in-None.ensures
