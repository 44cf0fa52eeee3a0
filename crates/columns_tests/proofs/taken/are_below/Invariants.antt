use Rattle.std.proofs.Common.{◌<◌, ℕ, slice_index_or}
use Rattle.columns_tests.proofs.taken.are_below.Given as goal

abbrev pub invariant-loop-code : goal.invariant-loop-code
invariant-loop-code l = (j : ℕ) (d : ℕ) → j < l.code-index → slice_index_or l.codes j d < l.count
