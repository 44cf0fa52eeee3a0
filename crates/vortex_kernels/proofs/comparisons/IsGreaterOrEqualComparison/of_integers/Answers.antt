use Rattle.std.proofs.Common.{map}
use Rattle.std.specs.Ordering.{is_ge, is_lt}
use Rattle.vortex_kernels.specs.PairOrders.{int_orders}
use Rattle.vortex_kernels.proofs.LaneWords.{denied, not_less}
use Rattle.vortex_kernels.proofs.comparisons.IsGreaterOrEqualComparison.of_integers.Goals as goal

pub returns : goal.returns
returns g c =
    let xs = map g.T.NativePType.number c.args.left.now in
    let ys = map g.T.NativePType.number c.args.right.now in
    denied c.less_word.result c.less_word.type_inv (λ j. is_lt (int_orders xs ys j))
    (λ j. is_ge (int_orders xs ys j)) (λ j. not_less (int_orders xs ys j))
    c.less_word.ensures
