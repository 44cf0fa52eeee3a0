use Rattle.std.proofs.Common.{map, ap, ◌∙◌, slice_set, arith}
use Rattle.std.proofs.lemmas.List.{map-set, take_all}
use Rattle.vortex_rewriting.proofs.children.children_with.Goals as goal

pub returns-clause-answer : goal.returns-clause-answer
returns-clause-answer g c =
    let tree = g.L.Leaf.tree_of in
    let child = c.args.child in
    let old = c.children-old-items.result.now in
    let whole = take_all c.loop-old.old-index old (omega (arith, c.loop-old-test.false)) in
    map-set tree c.loop-old.copies.items c.args.index child
    ∙ ap (λ ts. slice_set ts c.args.index (tree child))
    (ap (map tree) (c.loop-old.invariant ∙ whole) ∙ c.children-old-items.ensures.trees)
