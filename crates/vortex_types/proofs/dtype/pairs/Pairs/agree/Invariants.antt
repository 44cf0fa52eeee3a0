use Rattle.std.proofs.Common.{◌≡◌}
use Rattle.vortex_types.specs.TypePairs.{all_agree, waiting, weight_of}
use Rattle.vortex_types.proofs.dtype.pairs.Pairs.agree.Given as goal

-- the remaining pairs agree exactly where all do
abbrev pub invariant-loop-pair : goal.invariant-loop-pair
invariant-loop-pair l = all_agree l.exactly (waiting l.pairs) ≡ all_agree l.exactly (waiting l.fn.self)

abbrev pub decreases-loop-pair : goal.decreases-loop-pair
decreases-loop-pair l = weight_of (waiting l.pairs)
