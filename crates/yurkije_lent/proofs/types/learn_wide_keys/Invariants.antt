use Rattle.std.proofs.Common.{ℕ, ◌<◌, map, slice_index_or, ℤ}
use Rattle.vortex_types.specs.declared.dtype.PType.TheVariants.{I64}
use Rattle.vortex_types.specs.Typing.{FitsPType}
use Rattle.vortex_float_bits.specs.FloatBits.{wide_key}
use Rattle.yurkije_lent.proofs.types.learn_wide_keys.Given as goal

-- the keys so far
abbrev pub invariant-loop-pattern : goal.invariant-loop-pattern
invariant-loop-pattern l = (k : ℕ) (d : ℤ) → k < l.pattern-index
    → FitsPType I64 (slice_index_or (map wide_key l.patterns) k d)
