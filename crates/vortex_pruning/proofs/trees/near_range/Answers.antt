use Rattle.std.proofs.Common.{[], ◌∷◌, take, ap, sym, subst, ◌∙◌}
use Rattle.std.specs.Prelude.{slice_get}
use Rattle.std.proofs.lemmas.Result.{err_from_is_err_and}
use Rattle.vortex_functions.specs.Walks.{AllMean}
use Rattle.vortex_ranges.specs.BoundViews.{range_of}
use Rattle.vortex_pruning.specs.Knowing.{Knows}
use Rattle.vortex_pruning.proofs.LeafSteps.{two_children}
use Rattle.vortex_pruning.proofs.TreesKnown.{refusal_upward}
use Rattle.vortex_pruning.proofs.trees.near_range.Goals as goal

pub returns-in_err-left-in-len2 : goal.returns-in_err-left-in-len2
returns-in_err-left-in-len2 g c =
    let m = g.C.ScalarFnVTable.meaning in
    let ss = c.args.statistics.now in
    let t = c.args.node.now in
    let two = sym c.children.ensures.children
    ∙ two_children c.children.result.now c.left-item.result c.right-item.result
    c.in-len2.len_at_least c.in-len2.len_below c.left-item.is c.right-item.is in
    let at = ap (λ ts. slice_get ts 0) two in
    let p =
    err_from_is_err_and c.from_residual-in_err-left-in-len2.result
    c.from_residual-in_err-left-in-len2.ensures.1 in
    rw (p.1, p.2)
    (refusal_upward m c.args.rows ss t c.left-item.result [] _ tt at
    c.in_err-left-in-len2.ensures)

pub returns-in_err-right-in-len2 : goal.returns-in_err-right-in-len2
returns-in_err-right-in-len2 g c =
    let m = g.C.ScalarFnVTable.meaning in
    let ss = c.args.statistics.now in
    let n = c.args.rows in
    let t = c.args.node.now in
    let l = c.left-item.result in
    let r = c.right-item.result in
    let first = c.in_ok-left-in-len2.left in
    let two = sym c.children.ensures.children
    ∙ two_children c.children.result.now l r c.in-len2.len_at_least c.in-len2.len_below
    c.left-item.is c.right-item.is in
    let at = ap (λ ts. slice_get ts 1) two in
    let p =
    err_from_is_err_and c.from_residual-in_err-right-in-len2.result
    c.from_residual-in_err-right-in-len2.ensures.1 in
    rw (p.1, p.2)
    (refusal_upward m n ss t r (first ∷ []) _
    (subst (λ ts. AllMean (λ t r. Knows m n ss t (range_of r)) (take 1 ts) (first ∷ [])) (sym two)
    (c.in_ok-left-in-len2.ensures, tt)) at c.in_err-right-in-len2.ensures)

pub node_range-requires-in-len2-3 : goal.node_range-requires-in-len2-3
node_range-requires-in-len2-3 g c =
    let m = g.C.ScalarFnVTable.meaning in
    let ss = c.args.statistics.now in
    let n = c.args.rows in
    let two = sym c.children.ensures.children
    ∙ two_children c.children.result.now c.left-item.result c.right-item.result
    c.in-len2.len_at_least c.in-len2.len_below c.left-item.is c.right-item.is in
    subst (λ ts. AllMean (λ t r. Knows m n ss t (range_of r)) ts
    (c.in_ok-left-in-len2.left ∷ c.in_ok-right-in-len2.right ∷ [])) (sym two)
    (c.in_ok-left-in-len2.ensures, (c.in_ok-right-in-len2.ensures, tt))
