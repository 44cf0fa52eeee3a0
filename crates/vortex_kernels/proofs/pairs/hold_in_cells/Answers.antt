use Rattle.std.proofs.Common.{refl}
use Rattle.vortex_kernels.specs.PairOrders.{row_orders}
use Rattle.vortex_kernels.proofs.Comparing.{answers_compare}
use Rattle.vortex_kernels.proofs.pairs.hold_in_cells.Goals as goal

pub returns : goal.returns
returns g c =
    let l = c.args.lhs.now in
    let r = c.args.rhs.now in
    answers_compare g.P.Comparison.operator (row_orders l.rows r.rows) l.rows r.rows
    c.hold_in_pairs.result (λ i lt p q. refl) (rw c.len-len.ensures at c.hold_in_pairs.ensures)
