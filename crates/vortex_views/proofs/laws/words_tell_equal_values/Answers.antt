use Rattle.vortex_views.proofs.Digits.{are_bytes}
use Rattle.vortex_views.proofs.WordOrder.{short_equal, long_alike}
use Rattle.vortex_views.proofs.laws.words_tell_equal_values.Goals as goal

pub returns : goal.returns
returns c = record {
  short = short_equal c.args.a.now c.args.b.now (are_bytes _ c.type_inv.a)
      (are_bytes _ c.type_inv.b);
  long = long_alike c.args.a.now c.args.b.now (are_bytes _ c.type_inv.a) (are_bytes _ c.type_inv.b);
}
