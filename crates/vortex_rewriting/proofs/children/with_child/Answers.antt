use Rattle.std.proofs.Common.{ap, map, ◌∙◌}
use Rattle.vortex_types.specs.TypeOf.{type_of}
use Rattle.vortex_interface.specs.Trees.{trees_of, children_of}
use Rattle.vortex_interface.specs.Eval.{tree_type, tree_types}
use Rattle.vortex_rewriting.specs.Places.{with_children}
use Rattle.vortex_rewriting.proofs.AnotherChild.{other_types}
use Rattle.vortex_rewriting.proofs.FrameWalks.{some_is}
use Rattle.vortex_rewriting.proofs.OtherChildren.{others_typed}
use Rattle.vortex_rewriting.proofs.children.with_child.Goals as goal

pub with_children-requires-clause-typed : goal.with_children-requires-clause-typed
with_children-requires-clause-typed g c =
    let m = g.C.ScalarFnVTable.meaning in
    let tree = g.L.Leaf.tree_of in
    let parent = tree c.args.parent.now in
    let us = map tree c.in_ok-copies.copies.items in
    some_is (tree_type m (with_children parent us)) (type_of c.dtype-typed.result.now)
    (others_typed m parent us
    (ap (λ ts. tree_types m (trees_of ts)) c.in_ok-copies.ensures.answer
    ∙ other_types m (children_of parent) c.args.index (tree c.args.child) c.requires.is_child
    c.requires.same_type)
    ∙ c.dtype-typed.ensures.dtype)
