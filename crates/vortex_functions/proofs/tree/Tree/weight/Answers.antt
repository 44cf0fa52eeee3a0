use Rattle.std.proofs.Common.{sym, ap, ◌∙◌}
use Rattle.vortex_interface.specs.Weights.{weight_told}
use Rattle.vortex_interface.proofs.Weighed.{weight_bound}
use Rattle.vortex_functions.proofs.Counts.{opened}
use Rattle.vortex_functions.proofs.Leaves.{weighs_one}
use Rattle.vortex_functions.proofs.tree.Tree.weight.Goals as goal

pub returns-in-Leaf-clause-told : goal.returns-in-Leaf-clause-told
returns-in-Leaf-clause-told g c =
    let l = g.L.Leaf in
    let m = g.C.ScalarFnVTable.meaning in
    sym
    (ap (weight_told m) (opened l c.args.self.now c.self.inside _ c.self.view_is c.in-Leaf.is)
    ∙ weighs_one m _ (l.not_called c.in-Leaf.field-0))

pub returns-in-Leaf-clause-bounded : goal.returns-in-Leaf-clause-bounded
returns-in-Leaf-clause-bounded g c =
    weight_bound g.C.ScalarFnVTable.meaning (g.L.Leaf.tree_of c.args.self.now)

pub returns-in-Call-clause-bounded : goal.returns-in-Call-clause-bounded
returns-in-Call-clause-bounded g c =
    weight_bound g.C.ScalarFnVTable.meaning (g.L.Leaf.tree_of c.args.self.now)
