use Rattle.std.proofs.Common.{false, ap, ◌∙◌}
use Rattle.vortex_types.specs.LogicalTypes.{with_nullability}
use Rattle.vortex_types.specs.TypeOf.{type_of}
use Rattle.vortex_interface.specs.Trees.{children_of}
use Rattle.vortex_rewriting.proofs.DefaultValidities.{one_more_dtype}
use Rattle.vortex_rewriting.proofs.validity.child_dtypes.Goals as goal

pub loop-index-preserved : goal.loop-index-preserved
loop-index-preserved g c =
    one_more_dtype g.C.ScalarFnVTable.meaning
    (children_of (g.T.ReduceTree.seen c.args.node.now).tree) c.loop-index.index
    (g.T.ReduceTree.seen c.in_ok-child.child).tree (type_of c.node_dtype.result.now)
    c.loop-index.dtypes.items c.as_nonnullable.result c.push.new.self.items c.loop-index.invariant
    c.in_ok-child.ensures.answer.0 c.node_dtype.ensures
    (c.as_nonnullable.ensures ∙ ap (λ t. with_nullability t false) c.in_ok-dtype.ensures)
    c.in_ok-push.ensures.items
