use Rattle.std.proofs.Common.{◌∙◌, sym}
use Rattle.vortex_views.proofs.Telling.{short_whole}
use Rattle.vortex_views.proofs.literals.ShortWholeValueTest.passes.Goals as goal

pub returns : goal.returns
returns c =
    let own = c.args.self.now.view_is in
    short_whole _ _ c.args.self.now.literal.now c.is_same_view.result c.view.ensures
    c.args.self.now.short
    (λ yes. c.is_same_view.ensures.0 yes ∙ own, λ e. c.is_same_view.ensures.1 (e ∙ sym own))
