use Rattle.std.proofs.Common.{◌∙◌}
use Rattle.vortex_views.proofs.Resolving.{view_of}
use Rattle.vortex_views.proofs.ordered.RowWordsOfBytes.value_len.Goals as goal

pub returns : goal.returns
returns c = c.len.ensures ∙ (view_of _ _ c.args.self.now.fit).len
