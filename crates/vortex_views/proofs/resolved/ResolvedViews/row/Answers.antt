use Rattle.std.proofs.Common.{◌∙◌}
use Rattle.vortex_views.proofs.Resolving.{view_at, value_at}
use Rattle.vortex_views.proofs.resolved.ResolvedViews.row.Goals as goal

pub new-requires : goal.new-requires
new-requires c =
    view_at _ c.args.self.now.views.now c.args.i c.view_at.result.now c.args.self.now.fit c.requires
    c.view_at.ensures

pub returns : goal.returns
returns c =
    c.new.ensures
    ∙ value_at _ c.args.self.now.views.now c.args.i c.view_at.result.now c.requires
    c.view_at.ensures
