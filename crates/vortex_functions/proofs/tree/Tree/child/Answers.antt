use Rattle.vortex_functions.proofs.Leaves.{child_at}
use Rattle.vortex_functions.proofs.tree.Tree.child.Goals as goal

pub returns-clause-tree : goal.returns-clause-tree
returns-clause-tree g c =
    (child_at g.L.Leaf c.args.self.now c.args.index c.below_at.result.now c.below_at.ensures).0

pub returns-clause-same_rows : goal.returns-clause-same_rows
returns-clause-same_rows g c =
    (child_at g.L.Leaf c.args.self.now c.args.index c.below_at.result.now c.below_at.ensures).1
