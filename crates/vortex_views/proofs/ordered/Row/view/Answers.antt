use Rattle.vortex_views.proofs.Resolving.{view_of}
use Rattle.vortex_views.proofs.ordered.Row.view.Goals as goal

pub returns : goal.returns
returns c = view_of _ _ c.args.self.now.fit
