use Rattle.std.proofs.Common.{◌∙◌}
use Rattle.vortex_views.proofs.Resolving.{view_at, value_at}
use Rattle.vortex_views.proofs.resolved.ResolvedViews.bytes.Goals as goal

pub value_of-requires : goal.value_of-requires
value_of-requires c =
    view_at _ c.args.self.now.views.now c.args.i c.view_at.result.now c.args.self.now.fit c.requires
    c.view_at.ensures

pub returns : goal.returns
returns c =
    c.value_of.ensures
    ∙ value_at _ c.args.self.now.views.now c.args.i c.view_at.result.now c.requires
    c.view_at.ensures
