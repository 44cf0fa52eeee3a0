use Rattle.std.proofs.Common.{◌≡◌, ◌≤◌}
use Rattle.vortex_columns.specs.PairOrder.{order_at, order_from, size_at, size_left}
use Rattle.vortex_columns.proofs.cell.order.Comparing.advance.Given as goal

abbrev pub invariant-loop-k : goal.invariant-loop-k
invariant-loop-k l =
    (order_at l.k l.self ≡ order_from l.self) × (size_at l.k l.self ≤ size_left l.self)
