use Rattle.std.proofs.Common.{subst}
use Rattle.vortex_functions.specs.ArrayLeaves.{leaf_column}
use Rattle.vortex_functions.proofs.NodeKinds.{IsArrayNode}
use Rattle.vortex_functions.proofs.ArrayChildren.{seen}
use Rattle.vortex_functions.proofs.ArrayColumns.{column_rows}
use Rattle.vortex_functions.proofs.array.execution.ArrayRef+C.execute.Goals as goal

pub returns-in-Leaf-clause-answer : goal.returns-in-Leaf-clause-answer
returns-in-Leaf-clause-answer g c =
    let m = g.C.ScalarFnVTable.meaning in
    let n = c.self.inside.context in
    let is = seen c.args.self.now c.self.inside _ c.self.view_is c.in-Leaf.is in
    let node = subst (IsArrayNode m g.C.ScalarFnVTable.rules n) c.in-Leaf.is c.self.invariant.0 in
    rw c.column.ensures
    (column_rows m c.args.self.now (leaf_column c.in-Leaf.leaf) n is node.0 node.1)
