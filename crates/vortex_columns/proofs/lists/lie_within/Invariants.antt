use Rattle.std.proofs.Common.{ℕ, ◌+◌, ◌<◌, ◌≤◌, length, slice_index}
use Rattle.vortex_columns.proofs.lists.lie_within.Given as goal

abbrev pub invariant-loop-offset : goal.invariant-loop-offset
invariant-loop-offset l = (k : ℕ) → k < length l.yielded
    → slice_index l.offsets k + slice_index l.sizes k ≤ l.elements
