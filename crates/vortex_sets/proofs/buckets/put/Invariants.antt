use Rattle.std.proofs.Common.{◌≡◌, ◌≤◌, ◌+◌, length}
use Rattle.vortex_sets.proofs.buckets.put.Given as goal

-- nothing is written so far
abbrev pub invariant-loop-j : goal.invariant-loop-j
invariant-loop-j g l =
    (l.slots.items ≡ l.fn.slots.items) × (l.at + 4 ≤ length l.slots.items)
