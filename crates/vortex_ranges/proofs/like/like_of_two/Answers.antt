use Rattle.std.proofs.Common.{◌∙◌, sym, subst, [], ◌∷◌}
use Rattle.vortex_interface.specs.Shipped.{Like, shipped_type, shipped_means}
use Rattle.vortex_ranges.specs.BoundViews.{range_of}
use Rattle.vortex_ranges.specs.Calls.{AdmitsCalls}
use Rattle.vortex_ranges.proofs.LikeAdmits.{like-admits}
use Rattle.vortex_ranges.specs.Prefixes.{likeness}
use Rattle.vortex_ranges.proofs.like.like_of_two.Goals as goal

pub returns-clause-admits : goal.returns-clause-admits
returns-clause-admits c = λ t.
    let s = Like c.args.options in
    let x = range_of c.args.text.now in
    let y = range_of c.args.pattern.now in
    subst (λ r. AdmitsCalls (shipped_type s) (shipped_means s) t (x ∷ y ∷ []) r)
    (sym c.likeness.ensures)
    (like-admits c.args.options c.in_ok-matches.matches x y c.in_ok-matches.ensures.matches t)

pub returns-clause-prefix : goal.returns-clause-prefix
returns-clause-prefix c = λ plain pattern prefix is u w h.
    let x = range_of c.args.text.now in
    let y = range_of c.args.pattern.now in
    let told = c.in_ok-matches.ensures.exact plain pattern u is prefix w h in
    c.likeness.ensures
    ∙ (λ i. likeness c.args.options (told.0 i) (told.1 i) x y)
