use Rattle.std.proofs.Common.{ℕ, ◌<◌, map, slice_index_or, ℤ}
use Rattle.vortex_types.specs.Typing.{FitsPType}
use Rattle.vortex_types.proofs.ints.learn_ranges.Given as goal

abbrev pub invariant-loop-x : goal.invariant-loop-x
invariant-loop-x g l = (k : ℕ) (d : ℤ) → k < l.x-index
    → FitsPType g.T.NativePType.ptype (slice_index_or (map g.T.NativePType.number l.values) k d)
