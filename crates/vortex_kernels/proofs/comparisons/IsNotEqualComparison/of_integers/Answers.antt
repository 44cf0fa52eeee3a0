use Rattle.std.proofs.Common.{map}
use Rattle.std.specs.Ordering.{is_ne, is_eq}
use Rattle.vortex_kernels.specs.PairOrders.{int_orders}
use Rattle.vortex_kernels.proofs.LaneWords.{denied, not_equal}
use Rattle.vortex_kernels.proofs.comparisons.IsNotEqualComparison.of_integers.Goals as goal

pub returns : goal.returns
returns g c =
    let xs = map g.T.NativePType.number c.args.left.now in
    let ys = map g.T.NativePType.number c.args.right.now in
    denied c.equal_word.result c.equal_word.type_inv (λ j. is_eq (int_orders xs ys j))
    (λ j. is_ne (int_orders xs ys j)) (λ j. not_equal (int_orders xs ys j))
    c.equal_word.ensures
