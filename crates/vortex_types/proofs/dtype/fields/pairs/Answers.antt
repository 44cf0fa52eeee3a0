use Rattle.std.proofs.Common.{◌∙◌, ap}
use Rattle.std.proofs.lemmas.Iterator.{items_from_collect, YieldsList-from_zip}
use Rattle.std.proofs.lemmas.Iterator.Adapters.{YieldsList-from_vec}
use Rattle.std.specs.Vec.Iter.{into_iter_items, into_iter_len}
use Rattle.vortex_types.proofs.dtype.fields.pairs.Goals as goal

pub returns : goal.returns
returns c =
    let first = c.zip.ensures.first in
    let second = c.zip.ensures.second in
    items_from_collect c.collect.result c.collect.ensures.ran
    (YieldsList-from_zip
    (YieldsList-from_vec c.args.names.items
    (ap into_iter_items first ∙ c.into_iter.ensures.rest)
    (ap into_iter_len first ∙ c.into_iter.ensures.len ∙ c.args.names.ok.0))
    (YieldsList-from_vec c.args.types.items second.0 (second.1 ∙ c.args.types.ok.0)))
