use Rattle.std.proofs.Common.{ℕ, ◌<◌, slice_index}
use Rattle.vortex_arrays.proofs.dictionary.codes.are_below.Given as goal

abbrev pub invariant-loop-code : goal.invariant-loop-code
invariant-loop-code l = (k : ℕ) → k < l.code-index → slice_index l.codes k < l.count
