use Rattle.std.proofs.Common.{◌≡◌, ◌+◌, ◌≤◌}
use Rattle.std.specs.Ordering.{ordering_then}
use Rattle.vortex_columns.specs.PairOrder.{ArePaired, order_from, size_left, pairs_in}
use Rattle.vortex_columns.proofs.PairsAround.{AreAround, order_around, size_around}
use Rattle.vortex_columns.proofs.cell.order.Comparing.+order.Given as goal

-- what is left of the two that are compared, then what is left of those around
abbrev pub invariant-loop-above : goal.invariant-loop-above
invariant-loop-above l =
    (ordering_then (order_from l.here) (order_around (pairs_in l.above)) ≡ order_from l.self)
    × ArePaired l.here × AreAround (pairs_in l.above)
    × (size_left l.here + size_around (pairs_in l.above) ≤ size_left l.self)

abbrev pub decreases-loop-above : goal.decreases-loop-above
decreases-loop-above l = size_left l.here + size_around (pairs_in l.above)

abbrev pub decreases-order : goal.decreases-order
decreases-order l = size_left l.self.now
