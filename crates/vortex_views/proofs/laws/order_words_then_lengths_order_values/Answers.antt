use Rattle.vortex_views.proofs.Digits.{are_bytes}
use Rattle.vortex_views.proofs.WordOrder.{short_order}
use Rattle.vortex_views.proofs.laws.order_words_then_lengths_order_values.Goals as goal

pub returns : goal.returns
returns c =
    short_order c.args.a.now c.args.b.now (are_bytes _ c.type_inv.a) (are_bytes _ c.type_inv.b)
    c.requires
