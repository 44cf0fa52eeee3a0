use Rattle.std.proofs.Common.{◌∙◌}
use Rattle.vortex_views.proofs.Resolving.{view_of, prefix_of_view}
use Rattle.vortex_views.proofs.ordered.RowWordsOfBytes.order_prefix.Goals as goal

pub returns : goal.returns
returns c = c.order_prefix.ensures ∙ prefix_of_view _ _ (view_of _ _ c.args.self.now.fit)
