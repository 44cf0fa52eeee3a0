use Rattle.std.proofs.Common.{◌≡◌, map, slice_index_or, sym, ap, ◌∙◌, subst, pos, arith, to_z-of_z}
use Rattle.std.specs.Int.{w32}
use Rattle.std.proofs.lemmas.List.{get_or-map}
use mir.Val.{to_z, of_z}
use borrow.Author.Count.{below_more}
use Rattle.vortex_types.specs.declared.dtype.PType.TheVariants.{I32}
use Rattle.vortex_types.specs.Typing.{FitsPType}
use Rattle.vortex_float_bits.specs.FloatBits.{narrow_key}
use Rattle.yurkije_lent.proofs.types.learn_narrow_keys.Goals as goal

pub loop-pattern-preserved : goal.loop-pattern-preserved
loop-pattern-preserved c = λ k d h.
    let xs = c.args.patterns.now in
    let i = c.loop-pattern.pattern-index in
    let x = slice_index_or xs i (pos 0) in
    let same : to_z w32 (of_z w32 x) ≡ x = grind (arith, to_z-of_z) in
    let at : c.narrow_key.result ≡ slice_index_or (map narrow_key xs) i d =
    c.narrow_key.ensures ∙ ap narrow_key same
    ∙ sym (get_or-map narrow_key xs i (pos 0) d c.loop-pattern-test.true) in
    let key : to_z w32 (of_z w32 c.narrow_key.result) ≡ c.narrow_key.result =
    grind (arith, to_z-of_z) in
    below_more (λ j. FitsPType I32 (slice_index_or (map narrow_key xs) j d)) i
    (λ j b. c.loop-pattern.invariant j d b) (subst (FitsPType I32) (key ∙ at) c.to_i128.ensures.fits)
    k h
