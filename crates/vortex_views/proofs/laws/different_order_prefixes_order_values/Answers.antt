use Rattle.vortex_views.proofs.Digits.{are_bytes}
use Rattle.vortex_views.proofs.WordOrder.{different_prefixes}
use Rattle.vortex_views.proofs.laws.different_order_prefixes_order_values.Goals as goal

pub returns : goal.returns
returns c =
    different_prefixes c.args.a.now c.args.b.now (are_bytes _ c.type_inv.a)
    (are_bytes _ c.type_inv.b) c.requires
