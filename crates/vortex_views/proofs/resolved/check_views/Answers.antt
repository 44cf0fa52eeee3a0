use Rattle.std.proofs.Common.{refl, []}
use Rattle.std.proofs.lemmas.Bool.{false≢true}
use borrow.Author.Count.{below_more}
use Rattle.vortex_views.proofs.Resolving.{next_fits, misfit}
use Rattle.vortex_views.proofs.resolved.check_views.Goals as goal

pub loop-view-preserved : goal.loop-view-preserved
loop-view-preserved c =
    below_more _ c.loop-view.view-index c.loop-view.invariant
    (next_fits _ c.args.views.now c.loop-view.view-index (record { bytes = [] })
    c.loop-view-test.true
    (c.if-not-fits.ensures.0 refl))

pub returns-then-not-fits : goal.returns-then-not-fits
returns-then-not-fits c = (
  (λ h. absurd (false≢true h)),
  (λ all. absurd (misfit _ c.args.views.now c.loop-view.view-index (record { bytes = [] })
      c.loop-view-test.true
      (λ f. false≢true (c.if-not-fits.ensures.1 f)) all)),
)
