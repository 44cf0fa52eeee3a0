use Rattle.std.proofs.Common.{◌≡◌, ◌∙◌, sym, subst, List, ℕ}
use Rattle.std.specs.Str.{bytes_eq}
use Rattle.std.proofs.lemmas.Slice.Eq.{bytes_eq-Decides}
use Rattle.vortex_ranges.specs.BoundViews.{range_of}
use Rattle.vortex_ranges.specs.Prefixes.{IsOnlyText}
use Rattle.vortex_ranges.proofs.LikeAdmits.{only_text_is, sure}
use Rattle.vortex_ranges.proofs.like.only_text.Goals as goal

pub returns-in-Ok-clause-only : goal.returns-in-Ok-clause-only
returns-in-Ok-clause-only c =
    let low = c.in_ok-low.low.now in
    let high = c.in_ok-high.high.now in
    let same : low ≡ high =
    (bytes_eq-Decides low high).0
    (sure (bytes_eq low high) (sym c.ne.ensures ∙ c.if-ne.false)) in
    subst (λ (bs : List ℕ). IsOnlyText (range_of c.args.range.now) bs)
    (sym c.in-Ok.ensures.cases.0)
    (only_text_is (range_of c.args.range.now) low high c.in_ok-low.ensures.is c.in_ok-high.ensures.is same)
