use Rattle.std.proofs.Common.{◌≡◌, map, slice_index_or, sym, ap, ◌∙◌, subst}
use Rattle.std.proofs.lemmas.List.{get_or-map}
use borrow.Author.Count.{below_more}
use Rattle.vortex_types.specs.Typing.{FitsPType}
use Rattle.vortex_types.proofs.ints.learn_ranges.Goals as goal

pub loop-x-preserved : goal.loop-x-preserved
loop-x-preserved g c = λ k d h.
    let p = g.T.NativePType.ptype in
    let f = g.T.NativePType.number in
    let xs = c.args.values.now in
    let i = c.loop-x.x-index in
    let at : f c.x-item.result ≡ slice_index_or (map f xs) i d =
    ap f c.x-item.is ∙ sym (get_or-map f xs i c.x-item.result d c.loop-x-test.true) in
    below_more (λ j. FitsPType p (slice_index_or (map f xs) j d)) i
    (λ j b. c.loop-x.invariant j d b) (subst (FitsPType p) at c.to_i128.ensures.fits) k h
