use Rattle.std.proofs.Common.{add-one, ◌∙◌}
use Rattle.vortex_interface.specs.Weights.{added}
use Rattle.vortex_functions.specs.FunctionOf.{function_of}
use Rattle.vortex_functions.proofs.TreeCalls.{sum_one_more}
use Rattle.vortex_functions.proofs.tree.call_weight.Goals as goal

pub loop-child-preserved : goal.loop-child-preserved
loop-child-preserved g c =
    rw add-one
    (c.saturating_add-weight.ensures
    ∙ sum_one_more g.L.Leaf.tree_of g.C.ScalarFnVTable.meaning
    (added (function_of c.args.function.now) c.args.nullable) c.args.children.now
    c.loop-child.child-index c.child-item.result c.loop-child.weight c.weight.result
    c.loop-child.invariant c.loop-child-test.true c.child-item.is c.weight.ensures.told)
