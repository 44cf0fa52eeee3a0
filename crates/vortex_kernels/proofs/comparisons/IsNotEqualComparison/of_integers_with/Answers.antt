use Rattle.std.proofs.Common.{map}
use Rattle.std.specs.Ordering.{is_ne, is_eq}
use Rattle.vortex_kernels.specs.PairOrders.{int_orders_with}
use Rattle.vortex_kernels.proofs.LaneWords.{denied, not_equal}
use Rattle.vortex_kernels.proofs.comparisons.IsNotEqualComparison.of_integers_with.Goals as goal

pub returns : goal.returns
returns g c =
    let xs = map g.T.NativePType.number c.args.left.now in
    let z = g.T.NativePType.number c.args.right in
    denied c.equal_word_with.result c.equal_word_with.type_inv (λ j. is_eq (int_orders_with xs z j))
    (λ j. is_ne (int_orders_with xs z j)) (λ j. not_equal (int_orders_with xs z j))
    c.equal_word_with.ensures
