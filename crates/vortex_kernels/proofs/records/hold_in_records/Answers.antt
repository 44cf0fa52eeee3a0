use Rattle.vortex_kernels.proofs.FieldOrders.{all_fields}
use Rattle.vortex_kernels.proofs.records.hold_in_records.Goals as goal

pub returns-in-Some : goal.returns-in-Some
returns-in-Some g c =
    all_fields g.P.Comparison.operator c.args.count c.args.lhs.now c.args.rhs.now c.in-Some.bits
    c.requires.lengths c.requires.left c.requires.right c.dtype-left_typed.ensures.typed
    c.dtype-right_typed.ensures.typed (rw c.in-Some.is at c.in_ok-bits.ensures)
