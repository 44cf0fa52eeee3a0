use Rattle.std.proofs.Common.{◌∙◌}
use Rattle.vortex_types.specs.Order.{compare_values}
use Rattle.vortex_kernels.proofs.PartOrders.{int_row, map_length}
use Rattle.vortex_kernels.proofs.lists.IntElementsElements.order.Goals as goal

pub returns : goal.returns
returns g c =
    let f = g.T.NativePType.number in
    let e = c.args.self.now in
    c.total_compare.ensures
    ∙ (λ k.
    compare_values
    (int_row f e.left.now c.args.i c.index-self-i.result
    (map_length f e.left.now c.args.i c.requires.left_in) k)
    (int_row f e.right.now c.args.j c.index-self-j.result
    (map_length f e.right.now c.args.j c.requires.right_in) k))
