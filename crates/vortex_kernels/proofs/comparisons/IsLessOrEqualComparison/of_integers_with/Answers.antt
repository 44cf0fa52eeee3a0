use Rattle.std.proofs.Common.{map}
use Rattle.std.specs.Ordering.{is_le, is_gt}
use Rattle.vortex_kernels.specs.PairOrders.{int_orders_with}
use Rattle.vortex_kernels.proofs.LaneWords.{denied, not_greater}
use Rattle.vortex_kernels.proofs.comparisons.IsLessOrEqualComparison.of_integers_with.Goals as goal

pub returns : goal.returns
returns g c =
    let xs = map g.T.NativePType.number c.args.left.now in
    let z = g.T.NativePType.number c.args.right in
    denied c.greater_word_with.result c.greater_word_with.type_inv (λ j. is_gt (int_orders_with xs z j))
    (λ j. is_le (int_orders_with xs z j)) (λ j. not_greater (int_orders_with xs z j))
    c.greater_word_with.ensures
