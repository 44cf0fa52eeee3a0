use Rattle.std.proofs.Common.{◌≡◌, ◌∙◌, sym, ap, ℕ, List}
use Rattle.vortex_types.specs.Values.{text}
use Rattle.vortex_ranges.specs.BoundViews.{range_of}
use Rattle.vortex_ranges.specs.Ranges.{may_be}
use Rattle.vortex_ranges.proofs.LikeAdmits.{none_equals}
use Rattle.vortex_ranges.proofs.like.may_equal.Goals as goal

pub returns : goal.returns
returns c = λ e.
    let r = range_of c.args.text.now in
    let p = c.args.exact.now in
    let is : c.may_be.result ≡ may_be r (text p) =
    c.may_be.ensures ∙ ap (λ (bs : List ℕ). may_be r (text bs)) c.as_bytes.ensures.value in
    none_equals r p c.utf8.exact (sym is ∙ e)
