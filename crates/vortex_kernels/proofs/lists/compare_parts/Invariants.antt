use Rattle.std.specs.Prelude.{◌≡◌}
use Rattle.vortex_kernels.specs.Ranges.{part_order}
use Rattle.vortex_kernels.proofs.PartOrders.{order_after}
use Rattle.vortex_kernels.proofs.lists.compare_parts.Given as goal

abbrev pub invariant-loop-k : goal.invariant-loop-k
invariant-loop-k g l =
    let ls = g.E.Elements.left l.elements in
    let rs = g.E.Elements.right l.elements in
    order_after l.k ls l.left l.left_count rs l.right l.right_count
    ≡ part_order ls l.left l.left_count rs l.right l.right_count
