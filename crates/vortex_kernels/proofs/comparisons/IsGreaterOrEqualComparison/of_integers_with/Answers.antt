use Rattle.std.proofs.Common.{map}
use Rattle.std.specs.Ordering.{is_ge, is_lt}
use Rattle.vortex_kernels.specs.PairOrders.{int_orders_with}
use Rattle.vortex_kernels.proofs.LaneWords.{denied, not_less}
use Rattle.vortex_kernels.proofs.comparisons.IsGreaterOrEqualComparison.of_integers_with.Goals as goal

pub returns : goal.returns
returns g c =
    let xs = map g.T.NativePType.number c.args.left.now in
    let z = g.T.NativePType.number c.args.right in
    denied c.less_word_with.result c.less_word_with.type_inv (λ j. is_lt (int_orders_with xs z j))
    (λ j. is_ge (int_orders_with xs z j)) (λ j. not_less (int_orders_with xs z j))
    c.less_word_with.ensures
