use Rattle.vortex_views.proofs.Digits.{are_bytes}
use Rattle.vortex_views.proofs.WordOrder.{different_prefixes, different_tails, short_lengths}
use Rattle.vortex_views.proofs.WordOrder.{long_starts}
use Rattle.vortex_views.proofs.laws.words_order_values.Goals as goal

pub returns : goal.returns
returns c = record {
  prefix = different_prefixes c.args.a.now c.args.b.now (are_bytes _ c.type_inv.a)
      (are_bytes _ c.type_inv.b);
  tail = different_tails c.args.a.now c.args.b.now (are_bytes _ c.type_inv.a)
      (are_bytes _ c.type_inv.b);
  short = short_lengths c.args.a.now c.args.b.now (are_bytes _ c.type_inv.a)
      (are_bytes _ c.type_inv.b);
  long = long_starts c.args.a.now c.args.b.now (are_bytes _ c.type_inv.a)
      (are_bytes _ c.type_inv.b);
}
