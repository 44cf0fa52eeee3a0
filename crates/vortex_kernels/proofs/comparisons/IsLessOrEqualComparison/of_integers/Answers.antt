use Rattle.std.proofs.Common.{map, get_or, pos}
use Rattle.std.specs.Ordering.{is_le, is_lt}
use Rattle.vortex_kernels.specs.PairOrders.{int_orders}
use Rattle.vortex_kernels.proofs.LaneWords.{denied, not_less_turned}
use Rattle.vortex_kernels.proofs.comparisons.IsLessOrEqualComparison.of_integers.Goals as goal

pub returns : goal.returns
returns g c =
    let xs = map g.T.NativePType.number c.args.left.now in
    let ys = map g.T.NativePType.number c.args.right.now in
    denied c.less_word.result c.less_word.type_inv (λ j. is_lt (int_orders ys xs j))
    (λ j. is_le (int_orders xs ys j)) (λ j. not_less_turned (get_or xs j (pos 0)) (get_or ys j (pos 0)))
    c.less_word.ensures
